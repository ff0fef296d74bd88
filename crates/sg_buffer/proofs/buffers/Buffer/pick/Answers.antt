use Rattle.std.specs.Prelude.{true, false, None, MatchOption}
use Rattle.std.proofs.Common.{◌≡◌, ap, refl, subst, sym, ◌∙◌}
use Rattle.sg_select.specs.RestingPlaces.{settled}
use Rattle.sg_states.specs.States as states
use Rattle.sg_states.specs.States.{picked, shown_spec}
use Rattle.sg_buffer.specs.Held.{Held, shown, state_of}
use Rattle.sg_buffer.proofs.Going.{answered_none, answered_through}
use Rattle.sg_buffer.proofs.Methods.{cell_there, held, picked_at, picked_none}
use Rattle.sg_buffer.proofs.buffers.Buffer.pick.Goals as goal

pub at_cell-at-requires : goal.at_cell-at-requires
at_cell-at-requires c = cell_there (held c.self.inside) c.args.self.now (c.self.view_is ∙ c.in_ok-page.ensures.same) c.self.inside.nodes c.self.inside.history.room c.self.inside.page c.self.inside.standing c.self.invariant.0 c.in_ok-page.page c.in_ok-page.ensures.page c.requires c.args.line c.args.col

pub stand-requires-clause-node : goal.stand-requires-clause-node
stand-requires-clause-node c =
    let kept = c.keep_page.ensures ∙ c.in_ok-page.ensures.same in
    let shows : c.in_ok-page.page ≡ shown c.keep_page.new.self = c.in_ok-page.ensures.page ∙ ap shown (sym kept) in
    let none : c.keep_page.new.self.capture ≡ None = ap (λ (z : Held). z.capture) kept ∙ c.requires in
    let f = picked_at (held c.self.inside) c.keep_page.new.self (c.self.view_is ∙ sym c.keep_page.ensures) c.self.inside.nodes c.self.inside.history.room c.self.inside.page c.self.inside.standing c.self.invariant.0 c.in_ok-page.page shows none c.args.line c.args.col c.in-Some.n c.in-Some.ensures.none c.in-Some.ensures.settled in
    record { path = f.place; climbs = f.way }

pub stand-requires-clause-rests : goal.stand-requires-clause-rests
stand-requires-clause-rests c =
    let kept = c.keep_page.ensures ∙ c.in_ok-page.ensures.same in
    let shows : c.in_ok-page.page ≡ shown c.keep_page.new.self = c.in_ok-page.ensures.page ∙ ap shown (sym kept) in
    let none : c.keep_page.new.self.capture ≡ None = ap (λ (z : Held). z.capture) kept ∙ c.requires in
    (picked_at (held c.self.inside) c.keep_page.new.self (c.self.view_is ∙ sym c.keep_page.ensures) c.self.inside.nodes c.self.inside.history.room c.self.inside.page c.self.inside.standing c.self.invariant.0 c.in_ok-page.page shows none c.args.line c.args.col c.in-Some.n c.in-Some.ensures.none c.in-Some.ensures.settled).still

pub returns-in_ok-stand-in-Some-clause-none : goal.returns-in_ok-stand-in-Some-clause-none
returns-in_ok-stand-in-Some-clause-none c =
    let kept = c.keep_page.ensures ∙ c.in_ok-page.ensures.same in
    let shows : c.in_ok-page.page ≡ shown c.keep_page.new.self = c.in_ok-page.ensures.page ∙ ap shown (sym kept) in
    let none : c.keep_page.new.self.capture ≡ None = ap (λ (z : Held). z.capture) kept ∙ c.requires in
    let f = picked_at (held c.self.inside) c.keep_page.new.self (c.self.view_is ∙ sym c.keep_page.ensures) c.self.inside.nodes c.self.inside.history.room c.self.inside.page c.self.inside.standing c.self.invariant.0 c.in_ok-page.page shows none c.args.line c.args.col c.in-Some.n c.in-Some.ensures.none c.in-Some.ensures.settled in
    let v = c.keep_page.new.self in
    subst (λ (z : Held). MatchOption (picked z.grove.spec z.height c.args.line c.args.col (state_of z)) ((true ≡ false) × (c.stand.new.self ≡ c.args.self.now)) (λ st. (true ≡ true) × (state_of c.stand.new.self ≡ st))) kept
    (answered_through (settled (shown_spec v.grove.spec (state_of v)) (state_of v).term) (λ w. states.selected v.grove.spec v.height w (state_of v)) _ f.place _ _ f.at (refl, c.in_ok-stand-in-Some.ensures.state f.place f.way))

pub returns-in-None-clause-none : goal.returns-in-None-clause-none
returns-in-None-clause-none c =
    let v = c.args.self.now in
    answered_none (λ w. states.selected v.grove.spec v.height (settled (shown_spec v.grove.spec (state_of v)) (state_of v).term w) (state_of v)) _ _ _ (picked_none (held c.self.inside) c.args.self.now (c.self.view_is ∙ c.in_ok-page.ensures.same) c.self.inside.nodes c.self.inside.history.room c.self.inside.page c.self.inside.standing c.self.invariant.0 c.in_ok-page.page c.in_ok-page.ensures.page c.requires c.args.line c.args.col c.in-None.ensures.settled) (refl, c.keep_page.ensures ∙ c.in_ok-page.ensures.same)
