-- What a reader has read of a text.
use Rattle.std.proofs.Common.{◌≡◌, ℕ, ◌+◌, ◌<◌, Bool, true, false, length, get_or, take, refl, sym, ap, ◌∙◌, subst, arith, Option, Some, None, take_all, length-take-le}
use Rattle.sg_kinds.specs.Values.{Bytes}
use Rattle.sg_saved_form.specs.declared.notes.Outline.{Outline}
use Rattle.sg_saved_form.specs.declared.reader.Reader.{Reader}
use Rattle.sg_saved_form.specs.Files.{Raw, IsNoFile}
use Rattle.sg_saved_form.specs.Machine.{State, feed, run, ended, text_of}
use Rattle.sg_saved_form.specs.Notes.{notes_of, height_of, first_place, IsOutline}
use Rattle.sg_saved_form.specs.Readers.{Reads, Fed}
use Rattle.sg_saved_form.proofs.Fronts.{leads}
use Rattle.sg_saved_form.proofs.Forms.{first_state, first-is, read-file, refused-form, end-form, read-more}

-- what a reader has read
pub record ReadTo (text : Bytes) (at : ℕ) (r : Reader) : Type 0 where
  pub state : State
  pub runs : run first_state (take at text) ≡ Some state
  pub reads : Reads r state

pub read-none : (text : Bytes) (r : Reader) → Reads r first_state → ReadTo text 0 r
read-none text r reads = record { state = first_state; runs = refl; reads = reads }

fed-none : (o : Option State) (more : Bool) (r : Reader) → Fed o more r → more ≡ false → o ≡ None
fed-none None more r fed off = refl
fed-none (Some τ) more r fed off = absurd (let both : true ≡ false = sym fed.0 ∙ off in cc)

fed-some : (o : Option State) (more : Bool) (r : Reader) → Fed o more r → more ≡ true → (τ : State) × (o ≡ Some τ) × Reads r τ
fed-some None more r fed on = absurd (let both : false ≡ true = sym fed ∙ on in cc)
fed-some (Some τ) more r fed on = (τ, refl, fed.1)

-- what a reader answers to a byte of the text, whatever state it stands for
abbrev pub Answers : Bytes → ℕ → Reader → Bool → Reader → Type 0
Answers text at r more s = (σ : State) → Reads r σ → at ≡ length (text_of σ) → Fed (feed σ (get_or text at 0)) more s

place-is : (text : Bytes) (at : ℕ) (r : Reader) → at < length text → (to : ReadTo text at r) → at ≡ length (text_of to.state)
place-is text at r within to =
    let l = leads first_state to.state (take at text) first-is to.runs in
    omega (arith, ap length l.text, length-take-le at text (omega arith))

pub read-on : (text : Bytes) (at : ℕ) (r s : Reader) (more : Bool) → at < length text → ReadTo text at r → Answers text at r more s → more ≡ true → ReadTo text (at + 1) s
read-on text at r s more within to fed on =
    let next = fed-some (feed to.state (get_or text at 0)) more s (fed to.state to.reads (place-is text at r within to)) on in
    record { state = next.0; runs = read-more text at to.state next.0 within to.runs next.1; reads = next.2 }

pub read-refused : (text : Bytes) (at : ℕ) (r s : Reader) (more : Bool) → at < length text → ReadTo text at r → Answers text at r more s → more ≡ false → IsNoFile text at
read-refused text at r s more within to fed off =
    refused-form text at to.state within to.runs (fed-none (feed to.state (get_or text at 0)) more s (fed to.state to.reads (place-is text at r within to)) off)

-- at the end of the text
module _ (text : Bytes) (at : ℕ) (r : Reader) (done : at ≡ length text) (to : ReadTo text at r) where
  pub read-whole : (o : Outline) (x : Raw) → ended to.state ≡ Some x → o.notes.items ≡ notes_of first_place x → o.depth ≡ height_of x → IsOutline text o
  read-whole o x e notes depth =
      let f = read-file (take at text) to.state x to.runs e in
      record { raw = x; is = f.is; same = sym (take_all at text (omega arith)) ∙ f.same; notes = notes; depth = depth }

  pub read-ends : ended to.state ≡ None → IsNoFile text (length text)
  read-ends none = subst (IsNoFile text) done (end-form text at to.state done to.runs none)
