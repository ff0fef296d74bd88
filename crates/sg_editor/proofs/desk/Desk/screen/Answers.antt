use Rattle.std.specs.Prelude.{◌≡◌, ◌<◌, ℕ, IfOk, length, slice_get, None, Some, Option, option_and_then, option_map, MatchOption, ⊤}
use Rattle.std.proofs.Common.{refl, sym, ap, ◌∙◌, subst}
use Rattle.std.proofs.lemmas.Option.{slice_get_read}
use Rattle.sg_kinds.specs.Values.{Bytes}
use Rattle.sg_screen.specs.Block.{block}
use Rattle.sg_states.specs.States.{State}
use Rattle.sg_buffer.specs.Held.{Held, shown, state_of}
use Rattle.sg_editor.specs.Editing.{IsKept, IsOver, Kept, current_in, told}
use Rattle.sg_editor.specs.Screen.{printed, screen}
use Rattle.sg_editor.proofs.Printed.{lines_seen}
use Rattle.sg_editor.proofs.Stays.{over_at}
use Rattle.sg_editor.proofs.Taken.{buffer_stays}
use Rattle.sg_editor.proofs.Told.{current_told}
use Rattle.sg_editor.proofs.desk.Desk.screen.Goals as goal

pub returns-in_default-clause-printed : goal.returns-in_default-clause-printed
unfolding screen
returns-in_default-clause-printed c =
    let s = c.args.base.now in
    let k : Kept = record { buffers = c.self.inside.named.items; current = c.self.inside.current; clip = c.self.inside.clip; loads = c.self.inside.loads } in
    let none : current_in c.args.self.now ≡ None = subst (λ (x : Kept). current_in x ≡ None) c.self.view_is (ap (option_and_then (slice_get k.buffers)) c.in_default.is) in
    subst (λ (o : Option (Bytes × State)). IfOk c.bare.result (λ b. b.items ≡ printed s.contents.spec s.width s.height c.args.message c.args.ev o))
    (sym (current_told c.args.self.now ∙ ap (option_map told) none)) c.bare.ensures

pub head-head-requires-clause-over : goal.head-head-requires-clause-over
head-head-requires-clause-over c =
    let spec = c.args.base.now.contents.spec in
    let height = c.args.base.now.height in
    let k : Kept = record { buffers = c.self.inside.named.items; current = c.self.inside.current; clip = c.self.inside.clip; loads = c.self.inside.loads } in
    let i = c.in-Some.k in
    let b = c.index_mut-named.result.now in
    let kept : IsKept spec height k = subst (IsKept spec height) (sym c.self.view_is) c.requires in
    let at : k.current ≡ Some i = c.in-Some.is in
    let low : i < length k.buffers = subst (λ (o : Option ℕ). MatchOption o ⊤ (λ j. j < length k.buffers)) at kept.current in
    let here : slice_get k.buffers i ≡ Some b = slice_get_read k.buffers (length k.buffers) i b refl low c.index_mut-named.ensures.value in
    subst (IsOver spec height) (sym c.in_ok-page.ensures.same) (over_at spec height k kept i b here)

pub returns-clause-printed : goal.returns-clause-printed
unfolding screen
returns-clause-printed c =
    let s = c.args.base.now in
    let spec = c.args.base.now.contents.spec in
    let height = c.args.base.now.height in
    let k : Kept = record { buffers = c.self.inside.named.items; current = c.self.inside.current; clip = c.self.inside.clip; loads = c.self.inside.loads } in
    let i = c.in-Some.k in
    let b = c.index_mut-named.result.now in
    let kept : IsKept spec height k = subst (IsKept spec height) (sym c.self.view_is) c.requires in
    let at : k.current ≡ Some i = c.in-Some.is in
    let low : i < length k.buffers = subst (λ (o : Option ℕ). MatchOption o ⊤ (λ j. j < length k.buffers)) at kept.current in
    let here : slice_get k.buffers i ≡ Some b = slice_get_read k.buffers (length k.buffers) i b refl low c.index_mut-named.ensures.value in
    let current : current_in c.args.self.now ≡ Some b = subst (λ (x : Kept). current_in x ≡ Some b) c.self.view_is (ap (option_and_then (slice_get k.buffers)) at ∙ here) in
    let h = c.take_page.new.self in
    let over : IsOver spec height h = subst (IsOver spec height) (sym c.in_ok-page.ensures.same) (over_at spec height k kept i b here) in
    let lines = lines_seen spec h c.in_ok-page.page over.spec_is (c.in_ok-page.ensures.page ∙ ap shown (sym c.in_ok-page.ensures.same)) in
    let seen : Some (told b) ≡ Some (b.name, state_of h) = ap (λ (x : Held). Some (b.name, state_of x)) (sym c.in_ok-page.ensures.same) in
    subst (λ (o : Option (Bytes × State)). IfOk c.block-printed.result (λ v. v.items ≡ printed spec s.width height c.args.message c.args.ev o))
    (sym (current_told c.args.self.now ∙ ap (option_map told) current ∙ seen))
    (subst (λ (x : Bytes). IfOk c.block-printed.result (λ v. v.items ≡ x))
    (λ j. block (c.head-head.ensures j) (lines j) (c.width.ensures j) (c.height.ensures.result j)) c.block-printed.ensures)

pub returns-clause-same : goal.returns-clause-same
returns-clause-same c =
    let spec = c.args.base.now.contents.spec in
    let height = c.args.base.now.height in
    let k : Kept = record { buffers = c.self.inside.named.items; current = c.self.inside.current; clip = c.self.inside.clip; loads = c.self.inside.loads } in
    let i = c.in-Some.k in
    let b = c.index_mut-named.result.now in
    let kept : IsKept spec height k = subst (IsKept spec height) (sym c.self.view_is) c.requires in
    let at : k.current ≡ Some i = c.in-Some.is in
    let low : i < length k.buffers = subst (λ (o : Option ℕ). MatchOption o ⊤ (λ j. j < length k.buffers)) at kept.current in
    let here : slice_get k.buffers i ≡ Some b = slice_get_read k.buffers (length k.buffers) i b refl low c.index_mut-named.ensures.value in
    buffer_stays k i b c.keep_page.new.self here (c.keep_page.ensures ∙ c.in_ok-page.ensures.same) ∙ c.self.view_is
