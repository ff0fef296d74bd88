use Rattle.std.specs.Prelude.{◌≡◌, ◌<◌, ℕ, IfOk, length, slice_get, Some, Ok, Err, Option, option_and_then, MatchOption, MatchResult, Result, ⊤}
use Rattle.std.proofs.Common.{refl, sym, ap, ◌∙◌, subst}
use Rattle.std.proofs.lemmas.Option.{same_Some, slice_get_read}
use Rattle.sg_kinds.specs.Values.{Bytes}
use Rattle.sg_script.specs.declared.message.Message.{Message}
use Rattle.sg_states.specs.Seen.{marks_seen, nothing_typed}
use Rattle.sg_states.specs.States.{State}
use Rattle.sg_editor.specs.declared.desk.Named.{Named}
use Rattle.sg_editor.specs.Ask.{page_text}
use Rattle.sg_editor.specs.Editing.{IsKept, Kept, current_in}
use Rattle.sg_editor.proofs.Resting.{buffer_rests, text_told}
use Rattle.sg_editor.proofs.Stays.{over_at}
use Rattle.sg_editor.proofs.Taken.{buffer_stays}
use Rattle.sg_editor.proofs.desk.Desk.saved_text.Goals as goal

pub returns-in-Err-clause-text : goal.returns-in-Err-clause-text
returns-in-Err-clause-text c = c.in-Err.ensures.err (λ (st : State). page_text (marks_seen c.args.base.now.contents.spec st.spot.view st.term nothing_typed))

pub returns-clause-text : goal.returns-clause-text
returns-clause-text c =
    let spec = c.args.base.now.contents.spec in
    let height = c.args.base.now.height in
    let k : Kept = record { buffers = c.self.inside.named.items; current = c.self.inside.current; clip = c.self.inside.clip; loads = c.self.inside.loads } in
    let i = c.in-Some.k in
    let b = c.index_mut-named.result.now in
    let kept : IsKept spec height k = subst (IsKept spec height) (sym c.self.view_is) c.requires in
    let at : k.current ≡ Some i = c.in-Some.is in
    let low : i < length k.buffers = subst (λ (o : Option ℕ). MatchOption o ⊤ (λ j. j < length k.buffers)) at kept.current in
    let here : slice_get k.buffers i ≡ Some b = slice_get_read k.buffers (length k.buffers) i b refl low c.index_mut-named.ensures.value in
    let current : current_in c.args.self.now ≡ Some b = subst (λ (x : Kept). current_in x ≡ Some b) c.self.view_is (ap (option_and_then (slice_get k.buffers)) at ∙ here) in
    let over = over_at spec height k kept i b here in
    let ok = c.in-Ok.ensures.ok in
    let same : c.in-Ok.field-0.now ≡ b = same_Some c.in-Ok.field-0.now b (sym ok.0 ∙ current) in
    let none = ap (λ (x : Named). x.buffer.capture) (sym same) ∙ ok.1 in
    let told = buffer_rests c.args.self.now (λ (st : State). page_text (marks_seen spec st.spot.view st.term nothing_typed)) b current none
    ∙ text_told spec b.buffer c.in_ok-page.page over.spec_is none c.in_ok-page.ensures.page in
    subst (λ (x : Result Bytes Message). IfOk c.text_of-text.result (λ r. MatchResult r (λ bytes. x ≡ Ok bytes.items) (λ m. x ≡ Err m))) (sym told) c.text_of-text.ensures

pub returns-clause-same : goal.returns-clause-same
returns-clause-same c =
    let spec = c.args.base.now.contents.spec in
    let height = c.args.base.now.height in
    let k : Kept = record { buffers = c.self.inside.named.items; current = c.self.inside.current; clip = c.self.inside.clip; loads = c.self.inside.loads } in
    let i = c.in-Some.k in
    let b = c.index_mut-named.result.now in
    let kept : IsKept spec height k = subst (IsKept spec height) (sym c.self.view_is) c.requires in
    let at : k.current ≡ Some i = c.in-Some.is in
    let low : i < length k.buffers = subst (λ (o : Option ℕ). MatchOption o ⊤ (λ j. j < length k.buffers)) at kept.current in
    let here : slice_get k.buffers i ≡ Some b = slice_get_read k.buffers (length k.buffers) i b refl low c.index_mut-named.ensures.value in
    buffer_stays k i b c.keep_page.new.self here (c.keep_page.ensures ∙ c.in_ok-page.ensures.same) ∙ c.self.view_is
