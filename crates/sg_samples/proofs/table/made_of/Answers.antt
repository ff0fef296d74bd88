use Rattle.std.proofs.Common.{sym, subst}
use Rattle.sg_samples.specs.Table.{IsKnown}
use Rattle.sg_samples.specs.declared.table.Sample.TheVariants.{Short}
use Rattle.sg_samples.proofs.Known.{all_derive}
use Rattle.sg_samples.proofs.Steps.{made_short}
use Rattle.sg_samples.proofs.table.made_of.Goals as goal

pub returns-in_ok-terminals-in-Some : goal.returns-in_ok-terminals-in-Some
returns-in_ok-terminals-in-Some c = λ g known.
    let done = c.in_ok-terminals-in-Some.ensures g known in
    subst (λ v. IsKnown g c.args.string.now (Short v)) (sym c.new.ensures)
    (made_short g c.args.samples.now c.args.string.now c.in_ok-terminals-in-Some.terminals.items c.in-Some.size done.0 c.in-Some.ensures.some.0 c.in-Some.ensures.some.1 c.if-size-le-MOST.true done.1)

pub returns-in-Some-2 : goal.returns-in-Some-2
returns-in-Some-2 c = λ g known. all_derive g c.args.samples.now known c.args.string.now c.in-Some-2.ensures.some.0
