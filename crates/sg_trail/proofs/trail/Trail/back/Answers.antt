use Rattle.std.proofs.Common.{sym, subst}
use Rattle.sg_trail.specs.Trails.{LeadsBack}
use Rattle.sg_trail.proofs.Back.{again_live, again_root, again_apart, again_phyla, is_back}
use Rattle.sg_trail.proofs.trail.Trail.back.Goals as goal

pub store_back-requires : goal.store_back-requires
store_back-requires c = rw (← c.self.view_is) at c.requires.1.storable

-- the fields are those of the way
pub swap-requires-clause-live : goal.swap-requires-clause-live
swap-requires-clause-live c =
    let leads : LeadsBack c.requires.0 c.args.terms.now (record { at = c.self.inside.at; detached = c.self.inside.detached; entries = c.self.inside.entries.items }) = subst (LeadsBack c.requires.0 c.args.terms.now) (sym c.self.view_is) c.requires.1 in
    again_live c.requires.0 c.args.terms.now c.store_back.new.terms (record { at = c.self.inside.at; detached = c.self.inside.detached; entries = c.self.inside.entries.items }) leads c.store_back.ensures.stored c.store_back.ensures.numbers

pub swap-requires-clause-root : goal.swap-requires-clause-root
swap-requires-clause-root c =
    let leads : LeadsBack c.requires.0 c.args.terms.now (record { at = c.self.inside.at; detached = c.self.inside.detached; entries = c.self.inside.entries.items }) = subst (LeadsBack c.requires.0 c.args.terms.now) (sym c.self.view_is) c.requires.1 in
    again_root c.requires.0 c.args.terms.now c.store_back.new.terms (record { at = c.self.inside.at; detached = c.self.inside.detached; entries = c.self.inside.entries.items }) leads c.store_back.ensures.stored c.store_back.ensures.numbers

pub swap-requires-clause-apart : goal.swap-requires-clause-apart
swap-requires-clause-apart c =
    let leads : LeadsBack c.requires.0 c.args.terms.now (record { at = c.self.inside.at; detached = c.self.inside.detached; entries = c.self.inside.entries.items }) = subst (LeadsBack c.requires.0 c.args.terms.now) (sym c.self.view_is) c.requires.1 in
    again_apart c.requires.0 c.args.terms.now c.store_back.new.terms (record { at = c.self.inside.at; detached = c.self.inside.detached; entries = c.self.inside.entries.items }) leads c.store_back.ensures.stored c.store_back.ensures.numbers

pub swap-requires-clause-phyla : goal.swap-requires-clause-phyla
swap-requires-clause-phyla c =
    let leads : LeadsBack c.requires.0 c.args.terms.now (record { at = c.self.inside.at; detached = c.self.inside.detached; entries = c.self.inside.entries.items }) = subst (LeadsBack c.requires.0 c.args.terms.now) (sym c.self.view_is) c.requires.1 in
    again_phyla c.requires.0 c.args.terms.now c.store_back.new.terms (record { at = c.self.inside.at; detached = c.self.inside.detached; entries = c.self.inside.entries.items }) leads c.store_back.ensures.stored c.store_back.ensures.numbers

pub returns-clause-nodes : goal.returns-clause-nodes
returns-clause-nodes c = λ before leads_back n.
    let leads : LeadsBack before c.args.terms.now (record { at = c.self.inside.at; detached = c.self.inside.detached; entries = c.self.inside.entries.items }) = subst (LeadsBack before c.args.terms.now) (sym c.self.view_is) leads_back in
    is_back before c.args.terms.now c.store_back.new.terms (record { at = c.self.inside.at; detached = c.self.inside.detached; entries = c.self.inside.entries.items }) leads c.store_back.ensures.stored c.store_back.ensures.numbers c.swap.new.self c.swap.ensures.swapped
    c.swap.ensures.unchanged n
