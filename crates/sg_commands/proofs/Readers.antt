-- The entries of a language read texts right in one way.
use Rattle.std.specs.Prelude.{◌<◌, ◌≤◌, ◌⊎◌, ℕ, length}
use Rattle.std.proofs.Common.{inl, inr, arith}
use Rattle.std.proofs.lemmas.Bool.{cases_lt}
use Rattle.sg_kinds.specs.Values.{Bytes}
use Rattle.sg_kinds.specs.declared.spec.Spec.{Spec}
use Rattle.sg_input.specs.Entered.{Entered, BadByte, IsEntered, ReadsEachText}
use Rattle.sg_commands.specs.Turn.{Reads, AreReads}

module _ (spec : Spec) (each : ReadsEachText spec) where
  read : (e : ℕ) (text : Bytes) → (e < length spec.entries) ⊎ (length spec.entries ≤ e) → Entered
  read e text (inl low) = (each e low text).0
  read e text (inr high) = BadByte 0

  read_right : (e : ℕ) (text : Bytes) (d : (e < length spec.entries) ⊎ (length spec.entries ≤ e)) → e < length spec.entries
      → IsEntered spec e text (read e text d)
  unfolding read
  read_right e text (inl low) within = (each e low text).1
  read_right e text (inr high) within = absurd (omega (arith, high, within))

  pub reads_there : (reads : Reads) × AreReads spec reads
  reads_there = (
    (λ e text. read e text (cases_lt e (length spec.entries))),
    (λ e text within. read_right e text (cases_lt e (length spec.entries)) within),
  )
