-- What the changes of a desk are.
use Rattle.std.specs.Prelude.{◌≡◌, ◌<◌, ◌^◌, Bool, true, false, [], Option, None, Some, Result, Ok, Err, slice_get, slice_set}
use Rattle.mid_base.specs.declared.answers.By.{By}
use Rattle.mid_base.specs.declared.answers.NoMemory.{NoMemory}
use Rattle.mid_base.specs.declared.answers.TagState.TheVariants as tag
use Rattle.mid_base.specs.declared.entries.Entry.{Entry}
use Rattle.mid_base.specs.declared.entries.Entry.TheVariants.{EhBegin, EhEnd, Ready, Due}
use Rattle.mid_base.specs.declared.names.Attempt.{Attempt}
use Rattle.mid_base.specs.declared.names.Tag.{Tag}
use Rattle.host_words.specs.declared.view.Origin.{Origin}
use Rattle.host_words.specs.declared.view.Turn.{Turn}
use Rattle.host_words.specs.declared.words.WordSeen.{WordSeen}
use Rattle.host_words.specs.Journals.{Journal, HasSent}
use Rattle.host_words.specs.Words.{claimed_word}
use Rattle.host_words.specs.Views.{begun, armed_with, showing, released_of}
use Rattle.host_words.specs.Leaving.{IsNew, MayLeave}
use Rattle.host_tests.specs.declared.desk.Desk.{Desk}
use Rattle.host_tests.specs.declared.desk.Note.{Note}
use Rattle.host_tests.specs.declared.desk.Note.TheVariants.{Begun, Ended, Answered, Overdue}
use Rattle.host_tests.specs.Attempts.{is_left_to}
use Rattle.host_tests.specs.Entering.{OwnerAdded}

abbrev pub entry_of : Note → Entry
entry_of Begun = EhBegin
entry_of Ended = EhEnd
entry_of (Answered n a) = Ready n a
entry_of (Overdue n) = Due n

abbrev pub origin_of : Desk → Origin
origin_of d = record { spec = d.about; before = [] }

-- a turn that found the desk
abbrev pub begins : Desk → Turn
begins d = begun d.entries.items d.tags.items

-- a new attempt was sent under the tag, which was free, so that the turn may end once it has armed the tag
pub record Sent (d : Desk) (t : Tag) (n : Attempt) (e : Desk) : Type 0 where
  pub free : slice_get d.tags.items t.0 ≡ Some tag.Free
  pub fresh : IsNew (begins d) n
  pub small : n.0 < 2 ^ 60
  pub has : HasSent e.entries.items t.0 n
  pub may : MayLeave (armed_with (begins d) t.0 n) e.entries.items e.tags.items

abbrev pub Sends : Desk → Tag → Result (Option Attempt) NoMemory → Desk → Type 0
Sends d t (Ok (Some n)) e = Sent d t n e
Sends d t (Ok None) e = MayLeave (begins d) e.entries.items e.tags.items
Sends d t (Err x) e = MayLeave (begins d) e.entries.items e.tags.items

-- the word says of no attempt that it is claimed
abbrev pub ClaimsNone : WordSeen → Type 0
ClaimsNone w = (n : Attempt) (by : By) → w ≡ claimed_word n by → ⊥

-- the owner whom the word names stands then; where it names none, and for want of memory, all entries are as they were
abbrev pub Owns : Journal → WordSeen → Result (Option (Attempt × By)) NoMemory → Journal → Type 0
Owns base w (Ok (Some o)) left = (w ≡ claimed_word o.0 o.1) × OwnerAdded base o.0 o.1 left
Owns base w (Ok None) left = ClaimsNone w × (left ≡ base)
Owns base w (Err x) left = left ≡ base

-- a tag whose word names an owner is left to it
abbrev pub Keeps : Desk → Tag → Result (Option (Attempt × By)) NoMemory → Desk → Type 0
Keeps d t (Ok (Some o)) e = e.tags.items ≡ slice_set d.tags.items t.0 (tag.Owned o.0 o.1)
Keeps d t (Ok None) e = e.tags.items ≡ d.tags.items
Keeps d t (Err x) e = e.tags.items ≡ d.tags.items

-- a tag whose word names an owner is free then, so that the turn may end once it has released the tag
abbrev pub Settles : Desk → Tag → WordSeen → Result (Option (Attempt × By)) NoMemory → Desk → Type 0
Settles d t w (Ok (Some o)) e = (e.tags.items ≡ slice_set d.tags.items t.0 tag.Free) × MayLeave (released_of (showing (begins d) t.0 w) t.0 (claimed_word o.0 o.1)) e.entries.items e.tags.items
Settles d t w (Ok None) e = (e.tags.items ≡ d.tags.items) × MayLeave (showing (begins d) t.0 w) e.entries.items e.tags.items
Settles d t w (Err x) e = (e.tags.items ≡ d.tags.items) × MayLeave (showing (begins d) t.0 w) e.entries.items e.tags.items

-- a tag that is left to this owner of n is free then, and any other tag is as it was
abbrev pub Frees : Desk → Tag → Attempt → By → Bool → Desk → Type 0
Frees d t n by true e = (is_left_to n by (slice_get d.tags.items t.0) ≡ true) × (e.tags.items ≡ slice_set d.tags.items t.0 tag.Free)
Frees d t n by false e = (is_left_to n by (slice_get d.tags.items t.0) ≡ false) × (e.tags.items ≡ d.tags.items)
