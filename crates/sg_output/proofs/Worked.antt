-- Rows of the output, computed
use Rattle.std.proofs.Common.{◌≡◌, ℕ, List, [], ◌∷◌, ◌++◌, Some, None, codes, refl}
use Rattle.std.specs.Fmt.{digits}
use Rattle.sg_kinds.specs.declared.spec.Spec.{Spec}
use Rattle.sg_kinds.specs.declared.fault.SpecFault.TheVariants as fault
use Rattle.sg_faults.specs.FaultLine.{fault_line}
use Rattle.sg_load.specs.Verdict.Verdict.{Refused, Accepted}
use Rattle.sg_replies.specs.declared.reply.Reply.TheVariants.{Fetched, FetchFailed, Kept}
use Rattle.sg_replies.specs.Requests.Request.{Fetch}
use Rattle.sg_editor.specs.Ask.{Readers}
use Rattle.sg_output.specs.declared.status.Status.TheVariants.{Done, Usage, ReadFault, SpecFault, ReportFault}
use Rattle.sg_output.specs.Job.{job}
use Rattle.sg_output.specs.Job.Job.{Run}
use Rattle.sg_output.specs.Reading.{Reading}
use Rattle.sg_output.specs.Output.{unfinished, text}
use Rattle.sg_output.specs.OutputOf.{output_of}

abbrev show_a : List (List ℕ)
show_a = codes "show" ∷ codes "a" ∷ []

abbrev check_a : List (List ℕ)
check_a = codes "check" ∷ codes "a" ∷ []

abbrev run_b : List (List ℕ)
run_b = codes "run" ∷ codes "a" ∷ codes "b" ∷ []

abbrev report_b : List (List ℕ)
report_b = codes "report" ∷ codes "a" ∷ codes "b" ∷ codes "p" ∷ []

abbrev in_window : List ℕ → List ℕ → List (List ℕ)
in_window width height = codes "run" ∷ codes "a" ∷ codes "b" ∷ width ∷ height ∷ []

-- words that are no job
pub other_words : (r : Reading) → output_of (codes "run" ∷ codes "a" ∷ []) r [] ≡ text Usage (codes "usage: ssled show SPEC | run SPEC SCRIPT [W H] | check SPEC | load N | report SPEC FILE ATTR" ++ 10 ∷ [])
other_words r = refl

-- windows
pub whole_window : job run_b ≡ Some (Run (codes "a") (codes "b") 80 24)
whole_window = refl

pub largest_window : job (in_window (codes "1024") (codes "1")) ≡ Some (Run (codes "a") (codes "b") 1024 1)
largest_window = refl

pub too_wide : job (in_window (codes "1025") (codes "1")) ≡ None
too_wide = refl

pub no_height : job (in_window (codes "10") (codes "0")) ≡ None
no_height = refl

pub leading_zero : job (in_window (codes "010") (codes "2")) ≡ None
leading_zero = refl

pub signed : job (in_window (codes "+10") (codes "2")) ≡ None
signed = refl

-- without a reply there is a request and no status
pub no_reply : (r : Reading) → output_of show_a r [] ≡ record { blocks = []; evs = []; status = None; requests = Fetch (codes "a") 1048577 ∷ []; taken = 0 }
no_reply r = refl

-- a reply of another kind is not taken
pub another_reply : (r : Reading) → output_of show_a r (Kept ∷ []) ≡ unfinished (Fetch (codes "a") 1048577)
another_reply r = refl

-- the specification is not there
pub not_there : (r : Reading) → output_of check_a r (FetchFailed ∷ [])
    ≡ record { blocks = (codes "read fault specification" ++ 10 ∷ []) ∷ []; evs = []; status = Some ReadFault; requests = Fetch (codes "a") 1048577 ∷ []; taken = 1 }
not_there r = refl

-- the specification has a fault
pub refused : (bytes : List ℕ) (readers : Readers) → output_of check_a (record { verdict = Refused (fault.Syntax 12); readers = readers }) (Fetched bytes ∷ [])
    ≡ record { blocks = (codes "fault Syntax line 12" ++ 10 ∷ []) ∷ []; evs = []; status = Some SpecFault; requests = Fetch (codes "a") 1048577 ∷ []; taken = 1 }
unfolding digits fault_line
refused bytes readers = refl

-- it has none
pub accepted : (bytes : List ℕ) (spec : Spec) (readers : Readers) → output_of check_a (record { verdict = Accepted spec; readers = readers }) (Fetched bytes ∷ [])
    ≡ record { blocks = (codes "ok" ++ 10 ∷ []) ∷ []; evs = []; status = Some Done; requests = Fetch (codes "a") 1048577 ∷ []; taken = 1 }
accepted bytes spec readers = refl

-- the script is not there
pub no_script : (bytes : List ℕ) (spec : Spec) (readers : Readers) → output_of run_b (record { verdict = Accepted spec; readers = readers }) (Fetched bytes ∷ FetchFailed ∷ [])
    ≡ record { blocks = (codes "read fault script" ++ 10 ∷ []) ∷ []; evs = []; status = Some ReadFault; requests = Fetch (codes "a") 1048577 ∷ Fetch (codes "b") 1048577 ∷ []; taken = 2 }
no_script bytes spec readers = refl

-- a word without a point names no attribute, and the file is not fetched
pub no_attribute : (bytes : List ℕ) (spec : Spec) (readers : Readers) → output_of report_b (record { verdict = Accepted spec; readers = readers }) (Fetched bytes ∷ [])
    ≡ record { blocks = (codes "report no attribute" ++ 10 ∷ []) ∷ []; evs = []; status = Some ReportFault; requests = Fetch (codes "a") 1048577 ∷ []; taken = 1 }
no_attribute bytes spec readers = refl
