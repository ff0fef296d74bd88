use Rattle.std.proofs.Common.{◌≡◌, ◌≤◌, ℕ, length, nat_lt, false, sym, ◌∙◌, subst, arith}
use Rattle.std.proofs.lemmas.Bool.Decides.{nat_tests}
use Rattle.sg_saved.specs.Read.{IsOpened}
use Rattle.sg_load.specs.Loaded.{Contents}
use Rattle.sg_report.proofs.Reading.{read_saved, read_text, told_as}
use Rattle.sg_report.proofs.found.value_of.Goals as goal

shorter : (m n : ℕ) → n ≤ m → nat_lt m n ≡ false
shorter m n le = grind (arith, nat_tests)

pub returns-then-is_saved-clause-told : goal.returns-then-is_saved-clause-told
returns-then-is_saved-clause-told c = λ reads opens read saved.
    let file = c.args.file.now in
    let short : length file ≤ 4194304 = omega arith in
    told_as _ _ _ (c.saved_value.ensures.told (opens file) (subst (λ (l : Contents). IsOpened l.spec file (opens file)) (sym c.loaded.view_is) (saved file)))
    (sym (read_saved c.args.loaded.now.spec reads opens file (shorter 4194304 (length file) short) (sym c.is_saved.ensures ∙ c.if-is_saved.true)))

pub returns-else-is_saved-clause-told : goal.returns-else-is_saved-clause-told
returns-else-is_saved-clause-told c = λ reads opens read saved.
    let file = c.args.file.now in
    let short : length file ≤ 4194304 = omega arith in
    told_as _ _ _ (c.text_value.ensures.told reads opens read)
    (sym (read_text c.args.loaded.now.spec reads opens file (shorter 4194304 (length file) short) (sym c.is_saved.ensures ∙ c.if-is_saved.false)))
