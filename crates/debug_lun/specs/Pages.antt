-- The data that commands other than reads give, before an allocation length cuts them.
use Rattle.std.specs.Prelude.{ℕ, ◌-◌, ◌==◌, List, [], ◌∷◌, ◌++◌, length, None, Bool, true, false, not, if◌then◌else◌, nat_lt, codes, decimal}
use Rattle.std.specs.Int.{bytes_high_first}
use Rattle.mid_base.specs.declared.names.DevAddr.{DevAddr}
use Rattle.cdb_codec.specs.declared.cdb.Cdb.{Cdb}
use Rattle.cdb_codec.specs.declared.cdb.Cdb.TheVariants.{Inquiry, ReportLuns}
use Rattle.sense_data.specs.Grammar.{fixed_sense, descriptor_sense}
use Rattle.debug_lun.specs.declared.sense_code.Sense.{Sense}

-- SBC-3, READ CAPACITY(10) parameter data: the address of the last block, and the length of a block
abbrev pub capacity : ℕ → List ℕ
capacity blocks = bytes_high_first 4 (blocks - 1) ++ bytes_high_first 4 512

-- SPC-4, standard INQUIRY data: a direct access block device that is connected (00h), not removable (00h), SPC-4 (06h),
-- response data format 2, 31 bytes more (1Fh), and of the flags CMDQUE alone; then vendor, product and revision
abbrev pub standard_inquiry : List ℕ
standard_inquiry =
    0x00 ∷ 0x00 ∷ 0x06 ∷ 0x02 ∷ 0x1f ∷ 0x00 ∷ 0x00 ∷ 0x02 ∷ (codes "MIDLAYER" ++ codes "debug LUN       " ++ codes "0001")

-- SPC-4, Supported VPD Pages: two of them, 00h and 83h
abbrev pub supported_pages : List ℕ
supported_pages = 0x00 ∷ 0x00 ∷ 0x00 ∷ 0x02 ∷ 0x00 ∷ 0x83 ∷ []

-- the address of the unit as text, `channel:target:lun`
abbrev pub address_text : DevAddr → List ℕ
address_text d = decimal d.channel ++ codes ":" ++ decimal d.target ++ codes ":" ++ decimal d.lun

-- SPC-4, Device Identification: one designator for the logical unit, in ASCII (02h), vendor specific (00h)
abbrev pub designator : List ℕ → List ℕ
designator text = 0x02 ∷ 0x00 ∷ 0x00 ∷ length text ∷ text

abbrev pub identification : DevAddr → List ℕ
identification d =
    0x00 ∷ 0x83 ∷ (bytes_high_first 2 (length (designator (address_text d))) ++ designator (address_text d))

abbrev pub inquiry : DevAddr → Bool → ℕ → List ℕ
inquiry d false page = standard_inquiry
inquiry d true page = if page == 0x83 then identification d else supported_pages

-- INQUIRY for a page that there isn't, or for a page without EVPD; REPORT LUNS for a SELECT REPORT above 02h
abbrev pub is_unknown_page : Cdb → Bool
is_unknown_page (Inquiry true page alloc control) = if page == 0x00 then false else not (page == 0x83)
is_unknown_page (Inquiry false page alloc control) = not (page == 0x00)
is_unknown_page (ReportLuns select alloc control) = nat_lt 2 select
is_unknown_page _ = false

-- SPC-4, REPORT LUNS: all units are listed, but none where the well known ones alone are asked for (SELECT REPORT 01h)
abbrev pub listed_units : ℕ → List ℕ → List ℕ
listed_units select luns = if select == 0x01 then [] else luns

-- sense data in the form that DESC asks for
abbrev pub sense_bytes : Bool → Sense → List ℕ
sense_bytes true s = descriptor_sense s.key s.asc s.ascq None false
sense_bytes false s = fixed_sense s.key s.asc s.ascq None false
