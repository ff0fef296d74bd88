use Rattle.std.proofs.Common.{◌≡◌, ◌&&◌, not, sym, ap, ◌∙◌}
use Rattle.std.specs.List.{list_any}
use Rattle.std.specs.BTreeMap.{is_at}
use Rattle.sg_equations.specs.contracts.completeness.KeyOrd as order
use Rattle.sg_equations.specs.Complete.{is_defined}
use Rattle.sg_equations.specs.Keys.{key_of}
use Rattle.sg_equations.proofs.Ordered.{defined_seen}
use Rattle.sg_equations.proofs.completeness.lacks_slot.Goals as goal

pub returns-then-owes : goal.returns-then-owes
returns-then-owes c = λ defs seen.
    let found : c.contains.result ≡ is_defined defs c.args.op c.args.o =
    c.contains.ensures ∙ seen c.key_at.result
    ∙ ap (λ q. list_any (λ d. is_at (order.TheImpl.ghosts.cmp (key_of d)) q) defs) c.key_at.ensures
    ∙ defined_seen c.args.op c.args.o defs in
    ap not found ∙ ap (λ b. b && not (is_defined defs c.args.op c.args.o)) (sym c.if-owes.true ∙ c.owes.ensures)
