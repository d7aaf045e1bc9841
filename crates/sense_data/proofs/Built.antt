-- Sense data that was made of fields has these fields.
use Rattle.std.proofs.Common.{◌≡◌, ℕ, ◌<◌, ◌^◌, ◌%◌, [], Option, Some, None, Bool, true, false, refl, ap, arith}
use Rattle.std.specs.Prelude.{IfSome}
use Rattle.byteorder.specs.Numbers.{big_number-reads_back}
use Rattle.sense_data.specs.Grammar.{HasFields, fixed_sense, descriptor_sense}

same_key : (key : ℕ) → key < 16 → key % 16 ≡ key
same_key key small = omega arith

pub fixed_back : (key asc ascq : ℕ) (information : Option ℕ) (deferred : Bool) → key < 16 → IfSome information (λ n. n < 2 ^ 32) → HasFields (fixed_sense key asc ascq information deferred) key asc ascq information deferred
fixed_back key asc ascq None true small fits = record { valid = refl; key_is = same_key key small; asc_is = refl; ascq_is = refl; information_is = refl; deferred_is = refl }
fixed_back key asc ascq None false small fits = record { valid = refl; key_is = same_key key small; asc_is = refl; ascq_is = refl; information_is = refl; deferred_is = refl }
fixed_back key asc ascq (Some n) true small fits = record { valid = refl; key_is = same_key key small; asc_is = refl; ascq_is = refl; information_is = ap Some (big_number-reads_back 4 n [] fits); deferred_is = refl }
fixed_back key asc ascq (Some n) false small fits = record { valid = refl; key_is = same_key key small; asc_is = refl; ascq_is = refl; information_is = ap Some (big_number-reads_back 4 n [] fits); deferred_is = refl }

pub descriptor_back : (key asc ascq : ℕ) (information : Option ℕ) (deferred : Bool) → key < 16 → IfSome information (λ n. n < 2 ^ 64) → HasFields (descriptor_sense key asc ascq information deferred) key asc ascq information deferred
descriptor_back key asc ascq None true small fits = record { valid = refl; key_is = same_key key small; asc_is = refl; ascq_is = refl; information_is = refl; deferred_is = refl }
descriptor_back key asc ascq None false small fits = record { valid = refl; key_is = same_key key small; asc_is = refl; ascq_is = refl; information_is = refl; deferred_is = refl }
descriptor_back key asc ascq (Some n) true small fits = record { valid = refl; key_is = same_key key small; asc_is = refl; ascq_is = refl; information_is = ap Some (big_number-reads_back 8 n [] fits); deferred_is = refl }
descriptor_back key asc ascq (Some n) false small fits = record { valid = refl; key_is = same_key key small; asc_is = refl; ascq_is = refl; information_is = ap Some (big_number-reads_back 8 n [] fits); deferred_is = refl }
