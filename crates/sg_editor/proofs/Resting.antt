-- The current buffer, where no text is typed in it.
use Rattle.std.specs.Prelude.{◌≡◌, refl, Bool, true, is_some, if◌then◌else◌, Option, Some, None, option_map, MatchOption, Result, Ok, Err, IsErrAnd, MatchResult}
use Rattle.std.proofs.Common.{sym, ap, ◌∙◌, subst}
use Rattle.std.proofs.lemmas.Bool.{false≢true}
use Rattle.std.proofs.lemmas.Option.{none-some}
use Rattle.sg_kinds.specs.Values.{Bytes}
use Rattle.sg_kinds.specs.declared.spec.Spec.{Spec}
use Rattle.sg_changes.specs.Captured.{Captured}
use Rattle.sg_script.specs.declared.message.Message.{Message}
use Rattle.sg_script.specs.declared.message.Message.TheVariants as message
use Rattle.sg_unparse.specs.Page.{bytes_of, cells_of, is_cut}
use Rattle.sg_unparse.specs.Sheet.{Sheet}
use Rattle.sg_states.specs.Paged.{page_seen}
use Rattle.sg_states.specs.Seen.{marks_seen, nothing_typed}
use Rattle.sg_states.specs.States.{State, selected_place}
use Rattle.sg_buffer.specs.Held.{Held, shown, state_of, typed_by}
use Rattle.sg_editor.specs.declared.desk.Named.{Named}
use Rattle.sg_editor.specs.Ask.{page_text, resting, whole_text}
use Rattle.sg_editor.specs.Editing.{Kept, current_in, session_in, told}
use Rattle.sg_editor.specs.Session.{current_of}
use Rattle.sg_editor.proofs.Printed.{bytes_seen, cut_seen, view_seen}
use Rattle.sg_editor.proofs.Told.{current_told}

capture_held : (h : Held) → (state_of h).capture ≡ h.capture
unfolding state_of
capture_held h = refl

module _ (k : Kept) (make : State → Result Bytes Message) where
  pub none_rests : current_in k ≡ None → resting (current_of (session_in k)) make ≡ Err message.NoBuffer
  none_rests none = ap (λ (o : Option (Bytes × State)). resting o make) (current_told k ∙ ap (option_map told) none)

  rests_by : (b : Named) → current_in k ≡ Some b → resting (current_of (session_in k)) make ≡ (if is_some b.buffer.capture then Err message.InText else make (state_of b.buffer))
  rests_by b here =
      ap (λ (o : Option (Bytes × State)). resting o make) (current_told k ∙ ap (option_map told) here)
      ∙ ap (λ (c : Option Captured). if is_some c then Err message.InText else make (state_of b.buffer)) (capture_held b.buffer)

  pub typed_rests : (b : Named) → current_in k ≡ Some b → is_some b.buffer.capture ≡ true → resting (current_of (session_in k)) make ≡ Err message.InText
  typed_rests b here some = rests_by b here ∙ ap (λ (t : Bool). if t then Err message.InText else make (state_of b.buffer)) some

  pub buffer_rests : (b : Named) → current_in k ≡ Some b → b.buffer.capture ≡ None → resting (current_of (session_in k)) make ≡ make (state_of b.buffer)
  buffer_rests b here none = rests_by b here ∙ ap (λ (c : Option Captured). if is_some c then Err message.InText else make (state_of b.buffer)) none

-- a text that is being typed is told
pub captured_some : {X : Type 0} (res : Option X) (o : Option Captured) (f : X → Bytes) → MatchOption res (o ≡ None) (λ x. option_map (λ (c : Captured). c.text) o ≡ Some (f x)) → is_some res ≡ true
    → is_some o ≡ true
captured_some None o f told some = absurd (false≢true some)
captured_some (Some x) None f told some = absurd (none-some (f x) told)
captured_some (Some x) (Some c) f told some = refl

-- an error that is passed on
pub passed_on : {A M : Type 0} (P : A → Type 0) (Q : M → Type 0) (r : Result A M) (m : M) → IsErrAnd r (λ e. e ≡ m) → Q m → MatchResult r P Q
passed_on P Q (Ok x) m is q = absurd is
passed_on P Q (Err e) m is q = subst Q (sym is) q

-- the bytes of a page that shows a term where nothing is typed
pub text_told : (spec : Spec) (b : Held) (page : Sheet) → b.grove.spec ≡ spec → b.capture ≡ None → page ≡ shown b
    → page_text (marks_seen spec (state_of b).spot.view (state_of b).term nothing_typed) ≡ whole_text page
text_told spec b page same none is =
    let t = (state_of b).term in
    let plain : page ≡ page_seen b.grove b.root t nothing_typed = is ∙ ap (λ (c : Option Captured). page_seen b.grove b.root t (typed_by c (selected_place (state_of b)))) none in
    let cut : is_cut (marks_seen b.grove.spec b.grove.view t nothing_typed) ≡ page.more = sym (ap (λ (p : Sheet). p.more) plain ∙ cut_seen b.grove b.root t nothing_typed) in
    let bytes : bytes_of (cells_of (marks_seen b.grove.spec b.grove.view t nothing_typed)) ≡ bytes_of page.cells = sym (ap (λ (p : Sheet). bytes_of p.cells) plain ∙ bytes_seen b.grove b.root t nothing_typed) in
    ap (λ (sp : Spec). page_text (marks_seen sp (state_of b).spot.view t nothing_typed)) (sym same)
    ∙ ap (λ v. page_text (marks_seen b.grove.spec v t nothing_typed)) (sym (view_seen b)) ∙ (λ i. if cut i then Err message.Size else Ok (bytes i))
