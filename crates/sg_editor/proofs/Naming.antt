-- What is saved of the values of an accepted specification.
use Rattle.std.specs.Prelude.{◌≡◌, ◌≤◌, ℕ}
use Rattle.sg_kinds.specs.Fits.{Fits}
use Rattle.sg_kinds.specs.Plain.{plain}
use Rattle.sg_kinds.specs.Terms.{nodes_of, height_of}
use Rattle.sg_kinds.specs.Values.{Bytes, Value}
use Rattle.sg_kinds.specs.declared.spec.Operator.{Operator}
use Rattle.sg_kinds.specs.declared.spec.Spec.{Spec}
use Rattle.sg_kinds.proofs.Elementary.{slice_get-All}
use Rattle.sg_load.specs.FreeNames.{IsFreeName}
use Rattle.sg_load.specs.Verdict.{Accepted, IsVerdict}
use Rattle.sg_load.proofs.NamesRead.{accepted_named, accepted_distinct}
use Rattle.sg_saved_form.specs.Files.{IsFile}
use Rattle.sg_saved.specs.Read.{Holds, IsOpened, most_nodes, most_depth}
use Rattle.sg_saved.specs.Spelling.{saved, AreNamed}
use Rattle.sg_saved.proofs.OneSpelling.{written-file, one-spelling}
use Rattle.sg_saved.proofs.Opening.{written-read}

module _ (bytes : Bytes) (spec : Spec) (accepted : IsVerdict bytes (Accepted spec)) where
  pub are_named : AreNamed spec
  are_named op o here =
      let free : IsFreeName o.name = slice_get-All (λ (x : Operator). IsFreeName x.name) spec.ops op o (accepted_named bytes spec accepted) here in
      record { named = free.named; short = free.short; free = free.free }

  pub saved_file : (v : Value) (p : ℕ) → Fits spec (plain spec v p) p → IsFile (saved spec v)
  saved_file = written-file spec are_named

  pub saved_once : (v w : Value) (p : ℕ) → Fits spec (plain spec v p) p → Fits spec (plain spec w p) p → saved spec v ≡ saved spec w → v ≡ w
  saved_once = one-spelling spec (accepted_distinct bytes spec accepted) are_named

  pub saved_read : (v : Value) → Fits spec (plain spec v spec.root) spec.root → nodes_of (plain spec v spec.root) ≤ most_nodes → height_of (plain spec v spec.root) ≤ most_depth
      → IsOpened spec (saved spec v) (Holds v)
  saved_read = written-read spec are_named
