-- The text of an entry: its word and then its parts.
use Rattle.std.specs.Prelude.{ℕ, List, [], ◌∷◌, codes}
use Rattle.std.specs.Fmt.{decimal}
use Rattle.mid_base.specs.Bytes.{sense_list}
use Rattle.mid_base.specs.declared.entries.Entry.{Entry}
use Rattle.mid_base.specs.declared.entries.Entry.TheVariants.{Took, Sent, Bounced, Ready, Due, Longer, DoneSaid, Owned, Late, Judged, AbortSet, Aborted, Failed, Cleared, Sensed, Again, Told, EhBegin, EhEnd, Act, Probe, Offline, State, Tick}
use Rattle.report_text.specs.Pieces.{in_words, hex_byte, hex_text, address_text, answer_words, said_words, scope_text}
use Rattle.report_text.specs.Words.{busy_word, by_word, disp_word, ok_word, failed_word, again_word, state_word}

abbrev pub entry_words : Entry → List (List ℕ)
entry_words (Took c) = codes "took" ∷ decimal c.0 ∷ []
entry_words (Sent c n t) = codes "sent" ∷ decimal c.0 ∷ decimal n.0 ∷ decimal t.0 ∷ []
entry_words (Bounced c n why) = codes "bounced" ∷ decimal c.0 ∷ decimal n.0 ∷ busy_word why ∷ []
entry_words (Ready n a) = codes "ready" ∷ decimal n.0 ∷ answer_words a
entry_words (Due n) = codes "due" ∷ decimal n.0 ∷ []
entry_words (Longer n) = codes "longer" ∷ decimal n.0 ∷ []
entry_words (DoneSaid n) = codes "timerdone" ∷ decimal n.0 ∷ []
entry_words (Owned n by) = codes "owned" ∷ decimal n.0 ∷ by_word by ∷ []
entry_words (Late n) = codes "late" ∷ decimal n.0 ∷ []
entry_words (Judged c n d) = codes "judged" ∷ decimal c.0 ∷ decimal n.0 ∷ disp_word d ∷ []
entry_words (AbortSet c n) = codes "abortset" ∷ decimal c.0 ∷ decimal n.0 ∷ []
entry_words (Aborted c n ok) = codes "aborted" ∷ decimal c.0 ∷ decimal n.0 ∷ ok_word ok ∷ []
entry_words (Failed c n cancelled) = codes "failed" ∷ decimal c.0 ∷ decimal n.0 ∷ failed_word cancelled ∷ []
entry_words (Cleared c level) = codes "cleared" ∷ decimal c.0 ∷ decimal level ∷ []
entry_words (Sensed c n sense) = codes "sensed" ∷ decimal c.0 ∷ decimal n.0 ∷ hex_text (sense_list sense) ∷ []
entry_words (Again c counted) = codes "again" ∷ decimal c.0 ∷ again_word counted ∷ []
entry_words (Told c a) = codes "told" ∷ decimal c.0 ∷ answer_words a
entry_words EhBegin = codes "ehbegin" ∷ []
entry_words EhEnd = codes "ehend" ∷ []
entry_words (Act level scope ok) = codes "act" ∷ decimal level ∷ scope_text scope ∷ ok_word ok ∷ []
entry_words (Probe dev code said) = codes "probe" ∷ address_text dev ∷ hex_byte code ∷ said_words said
entry_words (Offline dev) = codes "offline" ∷ address_text dev ∷ []
entry_words (State dev state) = codes "state" ∷ address_text dev ∷ state_word state ∷ []
entry_words Tick = codes "tick" ∷ []

abbrev pub entry_text : Entry → List ℕ
entry_text e = in_words (entry_words e)
