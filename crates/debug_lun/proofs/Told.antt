-- What an answer says of the data that came in.
use Rattle.std.proofs.Common.{◌≡◌, ℕ, List, Bool, true, false, Option, Some, None, Result, Ok, Err, refl}
use Rattle.std.specs.Prelude.{◌&&◌, is_none}
use Rattle.cdb_codec.specs.declared.cdb.Cdb.{Cdb}
use Rattle.cdb_codec.specs.declared.cdb.Cdb.TheVariants.{TestUnitReady, RequestSense, Read6, Write6, Inquiry, StartStop, ReadCapacity10, Read10, Write10, SyncCache10, Read16, Write16, ReportLuns}
use Rattle.debug_lun.specs.declared.sense_code.Sense.{Sense}
use Rattle.debug_lun.specs.Units.{LogicalUnit}
use Rattle.debug_lun.specs.Commands.{read_command, is_write}
use Rattle.debug_lun.specs.Serving.{TellsData, refused, gives, takes, tried, run, run_read, serve, first_refusal, refusals, is_accepted_write}

refused_tells : (write : Bool) (u : LogicalUnit) (s : Sense) → TellsData write (refused u s)
refused_tells write u s = record { sum_is = refl; moved_is = λ _. refl }

gives_tells : (u : LogicalUnit) (bytes : List ℕ) → TellsData false (gives u bytes)
gives_tells u bytes = record { sum_is = refl; moved_is = λ _. refl }

takes_tells : (u : LogicalUnit) (k : ℕ) (bytes : List ℕ) → TellsData true (takes u k bytes)
takes_tells u k bytes = record { sum_is = refl; moved_is = λ no_write. cc }

tried_tells : (u : LogicalUnit) (c : Cdb) (luns out : List ℕ) (o : Option Sense) → TellsData (is_write c && is_none o) (tried u c luns out o)
tried_tells u c luns out (Some s) = refused_tells _ _ s
tried_tells u (TestUnitReady control) luns out None = gives_tells _ _
tried_tells u (RequestSense desc alloc control) luns out None = gives_tells _ _
tried_tells u (Read6 lba len control) luns out None = gives_tells _ _
tried_tells u (Write6 lba len control) luns out None = takes_tells _ _ _
tried_tells u (Inquiry evpd page alloc control) luns out None = gives_tells _ _
tried_tells u (StartStop immed bits control) luns out None = gives_tells _ _
tried_tells u (ReadCapacity10 control) luns out None = gives_tells _ _
tried_tells u (Read10 flags lba group len control) luns out None = gives_tells _ _
tried_tells u (Write10 flags lba group len control) luns out None = takes_tells _ _ _
tried_tells u (SyncCache10 flags lba group len control) luns out None = gives_tells _ _
tried_tells u (Read16 flags lba len group control) luns out None = gives_tells _ _
tried_tells u (Write16 flags lba len group control) luns out None = takes_tells _ _ _
tried_tells u (ReportLuns select alloc control) luns out None = gives_tells _ _

read_tells : (u : LogicalUnit) (luns out : List ℕ) (r : Result Cdb Sense) → TellsData (is_accepted_write u r) (run_read u luns out r)
unfolding run
read_tells u luns out (Err s) = refused_tells _ u s
read_tells u luns out (Ok c) = tried_tells u c luns out (first_refusal (refusals u c))

pub serve_tells : (u : LogicalUnit) (block luns out : List ℕ) → TellsData (is_accepted_write u (read_command block)) (serve u block luns out)
unfolding serve
serve_tells u block luns out = read_tells u luns out (read_command block)
