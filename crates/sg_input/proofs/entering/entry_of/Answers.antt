use Rattle.std.proofs.Common.{◌≡◌, Some, sym, ap, ◌∙◌, arith}
use Rattle.std.specs.Prelude.{nat_eq, position}
use Rattle.sg_kinds.specs.declared.spec.Entry.{Entry}
use Rattle.sg_input.specs.Entered.{entry_at}
use Rattle.sg_input.proofs.Entries.{entry_low}
use Rattle.sg_input.proofs.entering.entry_of.Goals as goal

pub overflow_cast-result : goal.overflow_cast-result
overflow_cast-result c =
    let is : entry_at c.args.spec.now c.args.p ≡ Some c.in-Some.place = sym (c.place_in.ensures ∙ ap (position (λ (e : Entry). nat_eq e.phylum c.args.p)) c.as_slice.ensures) ∙ c.in-Some.is in
    let l = entry_low c.args.spec.now c.requires c.args.p c.in-Some.place is in
    omega (arith, l)
