use Rattle.std.specs.Prelude.{◌≡◌, ◌<◌, IfOk, OnErr, length, slice_get, Some, Option, MatchOption, ⊤, ℕ}
use Rattle.std.proofs.Common.{refl, sym, ◌∙◌, subst}
use Rattle.std.proofs.lemmas.Option.{slice_get_read}
use Rattle.sg_kinds.specs.declared.spec.Spec.{Spec}
use Rattle.sg_eval.specs.Journal.{now_of}
use Rattle.sg_buffer.specs.Held.{state_of}
use Rattle.sg_commands.specs.Clipped.{IsClip}
use Rattle.sg_commands.specs.Turn.{AreReads}
use Rattle.sg_commands.specs.Typing.{IsTyping}
use Rattle.sg_editor.specs.Ask.{in_current}
use Rattle.sg_editor.specs.Editing.{IsKept, Kept, session_in}
use Rattle.sg_editor.specs.Steps.{AreSome, NotedHere, Took}
use Rattle.sg_editor.proofs.Stays.{after_kept, over_at}
use Rattle.sg_editor.proofs.Taken.{after, turn_noted, turn_took, turn_some, turn_same}
use Rattle.sg_editor.proofs.desk.Desk.turn.Goals as goal

pub returns-clause-took : goal.returns-clause-took
returns-clause-took c = λ r right.
    let spec = c.args.base.now.contents.spec in
    let height = c.args.base.now.height in
    let k : Kept = record { buffers = c.self.inside.named.items; current = c.self.inside.current; clip = c.self.inside.clip; loads = c.self.inside.loads } in
    let i = c.in-Some.k in
    let b = c.index_mut-named.result.now in
    let h = c.turn.new.buffer in
    let clip = c.turn.new.clip in
    let kept : IsKept spec height k = subst (IsKept spec height) (sym c.self.view_is) c.requires.kept in
    let at : k.current ≡ Some i = c.in-Some.is in
    let low : i < length k.buffers = subst (λ (o : Option ℕ). MatchOption o ⊤ (λ j. j < length k.buffers)) at kept.current in
    let here : slice_get k.buffers i ≡ Some b = slice_get_read k.buffers (length k.buffers) i b refl low c.index_mut-named.ensures.value in
    let over = over_at spec height k kept i b here in
    let was = now_of c.args.journal.now in
    let now = now_of c.turn.new.journal in
    let reads : AreReads b.buffer.grove.spec r.text = subst (λ (sp : Spec). AreReads sp r.text) (sym over.spec_is) right.0 in
    subst (λ (x : Kept). IfOk c.turn.result (λ m. Took (in_current spec height r (session_in x) c.args.command.now x.current) (after k i b h clip) m now)) c.self.view_is
    (turn_took spec k i b here at height r c.args.command.now over h clip was now c.requires.begun c.turn.result
    (c.turn.ensures.did r.text reads) (c.turn.ensures.counted r.text reads c.requires.begun))

pub returns-clause-some : goal.returns-clause-some
returns-clause-some c = λ r right.
    let spec = c.args.base.now.contents.spec in
    let height = c.args.base.now.height in
    let k : Kept = record { buffers = c.self.inside.named.items; current = c.self.inside.current; clip = c.self.inside.clip; loads = c.self.inside.loads } in
    let i = c.in-Some.k in
    let b = c.index_mut-named.result.now in
    let h = c.turn.new.buffer in
    let clip = c.turn.new.clip in
    let kept : IsKept spec height k = subst (IsKept spec height) (sym c.self.view_is) c.requires.kept in
    let at : k.current ≡ Some i = c.in-Some.is in
    let low : i < length k.buffers = subst (λ (o : Option ℕ). MatchOption o ⊤ (λ j. j < length k.buffers)) at kept.current in
    let here : slice_get k.buffers i ≡ Some b = slice_get_read k.buffers (length k.buffers) i b refl low c.index_mut-named.ensures.value in
    let over = over_at spec height k kept i b here in
    let was = now_of c.args.journal.now in
    let now = now_of c.turn.new.journal in
    let reads : AreReads b.buffer.grove.spec r.text = subst (λ (sp : Spec). AreReads sp r.text) (sym over.spec_is) right.0 in
    subst (λ (x : Kept). OnErr c.turn.result (AreSome spec (in_current spec height r (session_in x) c.args.command.now x.current) now)) c.self.view_is
    (turn_some spec k i b here at height r c.args.command.now over h clip was now c.requires.begun b.buffer c.turn.result
    (c.turn.ensures.gave_up r.text reads) (c.turn.ensures.fewer r.text reads c.requires.begun))

pub returns-clause-nodes : goal.returns-clause-nodes
returns-clause-nodes c = λ r right.
    let spec = c.args.base.now.contents.spec in
    let height = c.args.base.now.height in
    let k : Kept = record { buffers = c.self.inside.named.items; current = c.self.inside.current; clip = c.self.inside.clip; loads = c.self.inside.loads } in
    let i = c.in-Some.k in
    let b = c.index_mut-named.result.now in
    let h = c.turn.new.buffer in
    let clip = c.turn.new.clip in
    let kept : IsKept spec height k = subst (IsKept spec height) (sym c.self.view_is) c.requires.kept in
    let at : k.current ≡ Some i = c.in-Some.is in
    let low : i < length k.buffers = subst (λ (o : Option ℕ). MatchOption o ⊤ (λ j. j < length k.buffers)) at kept.current in
    let here : slice_get k.buffers i ≡ Some b = slice_get_read k.buffers (length k.buffers) i b refl low c.index_mut-named.ensures.value in
    let over = over_at spec height k kept i b here in
    let was = now_of c.args.journal.now in
    let now = now_of c.turn.new.journal in
    let reads : AreReads b.buffer.grove.spec r.text = subst (λ (sp : Spec). AreReads sp r.text) (sym over.spec_is) right.0 in
    subst (λ (x : Kept). OnErr c.turn.result (NotedHere r x c.args.command.now now)) c.self.view_is
    (turn_noted spec k i b here at height r c.args.command.now over h clip was now c.requires.begun b.buffer c.turn.result refl
    (c.turn.ensures.gave_up r.text reads))

pub returns-clause-same : goal.returns-clause-same
returns-clause-same c =
    let spec = c.args.base.now.contents.spec in
    let height = c.args.base.now.height in
    let k : Kept = record { buffers = c.self.inside.named.items; current = c.self.inside.current; clip = c.self.inside.clip; loads = c.self.inside.loads } in
    let i = c.in-Some.k in
    let b = c.index_mut-named.result.now in
    let h = c.turn.new.buffer in
    let clip = c.turn.new.clip in
    let kept : IsKept spec height k = subst (IsKept spec height) (sym c.self.view_is) c.requires.kept in
    let at : k.current ≡ Some i = c.in-Some.is in
    let low : i < length k.buffers = subst (λ (o : Option ℕ). MatchOption o ⊤ (λ j. j < length k.buffers)) at kept.current in
    let here : slice_get k.buffers i ≡ Some b = slice_get_read k.buffers (length k.buffers) i b refl low c.index_mut-named.ensures.value in
    let over = over_at spec height k kept i b here in
    let was = now_of c.args.journal.now in
    let now = now_of c.turn.new.journal in
    let r = c.readers.ensures.0 in
    let reads : AreReads b.buffer.grove.spec r.text = subst (λ (sp : Spec). AreReads sp r.text) (sym over.spec_is) c.readers.ensures.1.0 in
    subst (λ (x : Kept). OnErr c.turn.result (session_in (after k i b h clip) ≡ session_in x)) c.self.view_is
    (turn_same spec k i b here at height r c.args.command.now over h clip was now c.requires.begun b.buffer c.turn.result refl
    (c.turn.ensures.gave_up r.text reads))

pub returns-clause-kept : goal.returns-clause-kept
returns-clause-kept c =
    let spec = c.args.base.now.contents.spec in
    let height = c.args.base.now.height in
    let k : Kept = record { buffers = c.self.inside.named.items; current = c.self.inside.current; clip = c.self.inside.clip; loads = c.self.inside.loads } in
    let i = c.in-Some.k in
    let b = c.index_mut-named.result.now in
    let h = c.turn.new.buffer in
    let clip = c.turn.new.clip in
    let kept : IsKept spec height k = subst (IsKept spec height) (sym c.self.view_is) c.requires.kept in
    let at : k.current ≡ Some i = c.in-Some.is in
    let low : i < length k.buffers = subst (λ (o : Option ℕ). MatchOption o ⊤ (λ j. j < length k.buffers)) at kept.current in
    let here : slice_get k.buffers i ≡ Some b = slice_get_read k.buffers (length k.buffers) i b refl low c.index_mut-named.ensures.value in
    let over = over_at spec height k kept i b here in
    let is : h.grove.spec ≡ spec = c.turn.ensures.spec ∙ over.spec_is in
    after_kept spec height k kept i b h clip
    (record {
      spec_is = is;
      height_is = c.turn.ensures.height ∙ over.height_is;
      typing = subst (λ (sp : Spec). IsTyping sp (state_of h)) is c.turn.ensures.typing;
    })
    (subst (λ (sp : Spec). IsClip sp clip) is c.turn.ensures.fits)
