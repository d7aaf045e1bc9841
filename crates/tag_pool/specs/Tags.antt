-- Which tags are out, for which devices, and which tag is taken next.
use Rattle.std.specs.Prelude.{ℕ, ◌≡◌, ◌<◌, ◌≤◌, ◌&&◌, nat_lt, Bool, true, false, List, length, slice_index_or, slice_set, count_by, Option, None, Some, is_some}
use Rattle.mid_base.specs.declared.names.DevAddr.{DevAddr}
use Rattle.mid_base.specs.Address.{same_dev}
use Rattle.tag_pool.specs.declared.pool.Take.{Take}
use Rattle.tag_pool.specs.declared.pool.Take.TheVariants as take

-- for each tag, from 0 on, the device that it is out for
abbrev pub Holders : Type 0
Holders = List (Option DevAddr)

abbrev pub holder : ℕ → Holders → Option DevAddr
holder t tags = slice_index_or tags t None

abbrev pub is_out : ℕ → Holders → Bool
is_out t tags = is_some (holder t tags)

abbrev pub is_out_for : DevAddr → Option DevAddr → Bool
is_out_for dev None = false
is_out_for dev (Some d) = same_dev d dev

-- how many tags are out for the device
abbrev pub out_of : DevAddr → Holders → ℕ
out_of dev tags = count_by (is_out_for dev) tags

-- how many tags are out
abbrev pub all_out : Holders → ℕ
all_out tags = count_by is_some tags

-- a tag is free, and fewer of the device's are out than `depth`
abbrev pub has_room : Holders → DevAddr → (depth : ℕ) → Bool
has_room tags dev depth = nat_lt (all_out tags) (length tags) && nat_lt (out_of dev tags) depth

abbrev pub AllOut : Holders → Type 0
AllOut tags = (t : ℕ) → t < length tags → is_out t tags ≡ true

-- the tag is free, and each smaller one is out
abbrev pub IsLeastFree : ℕ → Holders → Type 0
IsLeastFree t tags = (t < length tags) × (is_out t tags ≡ false) × ((k : ℕ) → k < t → is_out k tags ≡ true)

-- what a device that may have `depth` tags out at once is given
abbrev pub Takes : Holders → DevAddr → (depth : ℕ) → Take → Type 0
Takes tags dev depth (take.HostFull n) = AllOut tags × (n ≡ length tags)
Takes tags dev depth (take.DeviceFull n) =
    ((t : ℕ) × (t < length tags) × (is_out t tags ≡ false)) × (depth ≤ out_of dev tags) × (n ≡ depth)
Takes tags dev depth (take.Tag t) = IsLeastFree t.0 tags × (out_of dev tags < depth)

-- the tags afterwards
abbrev pub taken : Holders → DevAddr → Take → Holders
taken tags dev (take.Tag t) = slice_set tags t.0 (Some dev)
taken tags dev _ = tags
