use Rattle.std.proofs.Common.{refl, sym, ◌∙◌, subst}
use Rattle.std.proofs.lemmas.Option.{same_Some}
use Rattle.std.specs.Prelude.{IsSome}
use Rattle.sg_kinds.specs.Terms.{Leaf}
use Rattle.sg_kinds.proofs.Elementary.{some_there}
use Rattle.sg_pool.specs.Pools.{StandsFor}
use Rattle.sg_pool.specs.PoolEntries.{entry_value}
use Rattle.sg_matching.proofs.NodeValues.{op_value, leaf_at, value_told, none_there}
use Rattle.sg_matching.proofs.nodes.leaf.Goals as goal

pub returns-then-is_some : goal.returns-then-is_some
returns-then-is_some c =
    let some = some_there c.op.result (sym c.is_some.ensures ∙ c.if-is_some.true) in
    (some.0, op_value c.args.terms.now c.facts.ensures c.args.n some.0 (sym c.op.ensures.op ∙ some.1))

pub stored-requires : goal.stored-requires
stored-requires c =
    let none = none_there c.op.result (sym c.is_some.ensures ∙ c.if-is_some.false) in
    let leaf = leaf_at c.args.terms.now c.facts.ensures c.args.n c.requires (sym c.op.ensures.op ∙ none) in
    subst IsSome (sym leaf.number) refl

pub returns : goal.returns
returns c =
    let none = none_there c.op.result (sym c.is_some.ensures ∙ c.if-is_some.false) in
    let leaf = leaf_at c.args.terms.now c.facts.ensures c.args.n c.requires (sym c.op.ensures.op ∙ none) in
    let entry = c.entry.result.now in
    let held = c.stored.ensures.leaf leaf.phylum leaf.value leaf.holds in
    let stands = subst (λ p. StandsFor p c.stored.result (entry_value p entry)) c.pool.ensures c.entry.ensures.value in
    value_told c.args.terms.now c.facts.ensures c.args.n (Leaf leaf.phylum leaf.value) leaf.holds ∙ same_Some leaf.value (entry_value c.args.terms.now.pool entry) (sym held ∙ stands)
