-- Lines one after another
use Rattle.std.proofs.Common.{◌≡◌, ◌≤◌, inl, inr, ℕ, ◌+◌, ◌-◌, ◌^◌, suc, List, [], ◌∷◌, ◌++◌, Option, Some, None, refl, sym, ap, subst, ◌∙◌, append-nil, arith}
use Rattle.sg_kinds.specs.declared.spec.Spec.{Spec}
use Rattle.sg_editor.specs.Ask.{Readers, AreReaders}
use Rattle.sg_editor.specs.Editing.{Editing, Setting, spec_in, width_in, height_in, session_of}
use Rattle.sg_editor.specs.Session.{Session}
use Rattle.sg_output.specs.declared.status.Status.{Status}
use Rattle.sg_output.specs.declared.status.Status.TheVariants.{Memory}
use Rattle.sg_output.specs.Session.{Desk, desk}
use Rattle.sg_console.specs.Console.{Event}
use Rattle.sg_live.specs.DeskView.{desk_in}
use Rattle.sg_live.specs.Outside.{Outside, all_noted}
use Rattle.sg_live.specs.Turned.{Turned, Over}
use Rattle.sg_live.specs.Turns.{AreTurns, none, more, worn, WentOn, Talked, IsEndOrFault}
use Rattle.sg_live.proofs.Inputs.{all_noted-append, read_then, read_last, read_nothing, was_read}

nothing_noted : (h : Option (List Event)) → all_noted [] h ≡ h
nothing_noted None = refl
nothing_noted (Some h) = ap (λ (l : List Event). Some l) (append-nil h)

module _ (d : Desk) (s : Session) (old : Outside) where
  pub went_on_none : WentOn d s 0 s old old
  went_on_none = record {
    events = [];
    evaluated = 0;
    turns = none;
    history = sym (nothing_noted old.console.history);
    counted = omega arith;
    input = read_nothing old.console.left;
    later = omega arith;
  }

  pub went_on_more : (k : ℕ) (t u : Session) (mid new : Outside) → WentOn d s k t old mid → Turned d t u mid new → WentOn d s (k + 1) u old new
  went_on_more k t u mid new a b = record {
    events = a.events ++ b.event ∷ b.said;
    evaluated = a.evaluated + b.evaluated;
    turns = subst (λ (j : ℕ). AreTurns d s old.shelf j u new.shelf (a.events ++ b.event ∷ b.said) (a.evaluated + b.evaluated)) next (more k t u mid.shelf new.shelf a.events b.said b.event a.evaluated b.evaluated a.turns b.turn);
    history = b.history ∙ ap (all_noted (b.event ∷ b.said)) a.history ∙ all_noted-append a.events (b.event ∷ b.said) old.console.history;
    counted = omega (arith, a.counted, b.counted);
    input = read_then a.events (b.event ∷ b.said) old.console.left mid.console.left new.console.left a.input b.input;
    later = omega (arith, a.later, b.later);
  }
    where
      next : suc k ≡ k + 1
      next = omega arith

  later_cause : (status : Status) (mid new : Outside) → old.console.faults ≤ mid.console.faults → IsEndOrFault status mid new → IsEndOrFault status old new
  later_cause status mid new h (inl is) = inl is
  later_cause status mid new h (inr (inl is)) = inr (inl is)
  later_cause status mid new h (inr (inr rose)) = inr (inr (omega (arith, rose)))

  pub talked : (k : ℕ) (t : Session) (mid new : Outside) (status : Status) → WentOn d s k t old mid → Over d t k status mid new → Talked d s old status new
  talked k t mid new status a b = record {
    lines = k;
    session = t;
    shelf = mid.shelf;
    events = a.events;
    ending = b.ending;
    evaluated = a.evaluated;
    evaluated_last = b.evaluated;
    turns = a.turns;
    over = b.over;
    history = b.history ∙ ap (all_noted b.ending) a.history ∙ all_noted-append a.events b.ending old.console.history;
    counted = omega (arith, a.counted, b.counted);
    input = read_last a.events b.ending old.console.left mid.console.left a.input b.input;
    cause = later_cause status mid new a.later b.cause;
  }

  pub talked_worn : (k : ℕ) (t : Session) (new : Outside) → WentOn d s k t old new → 2 ^ 64 - 1 ≤ k → Talked d s old Memory new
  talked_worn k t new a h = record {
    lines = k;
    session = t;
    shelf = new.shelf;
    events = a.events;
    ending = [];
    evaluated = a.evaluated;
    evaluated_last = 0;
    turns = a.turns;
    over = worn h;
    history = a.history ∙ ap (λ (es : List Event). all_noted es old.console.history) (sym (append-nil a.events));
    counted = omega (arith, a.counted);
    input = read_last a.events [] old.console.left new.console.left a.input (was_read [] new.console.left new.console.left (read_nothing new.console.left));
    cause = inr (inl refl);
  }

-- the same desk in other words
pub turned_at : (a b : Editing) (r : Readers) (s t : Session) (old new : Outside) → b.setting ≡ a.setting → Turned (desk_in b r) s t old new → Turned (desk_in a r) s t old new
turned_at a b r s t old new same = subst (λ (x : Setting). Turned (desk x.contents.spec x.width x.height r) s t old new) same

pub over_at : (a b : Editing) (r : Readers) (s : Session) (lines : ℕ) (status : Status) (old new : Outside) → b.setting ≡ a.setting → Over (desk_in b r) s lines status old new
    → Over (desk_in a r) s lines status old new
over_at a b r s lines status old new same = subst (λ (x : Setting). Over (desk x.contents.spec x.width x.height r) s lines status old new) same

pub readers_at : (a b : Editing) (r : Readers) → b.setting ≡ a.setting → AreReaders (spec_in a) r → AreReaders (spec_in b) r
readers_at a b r same = subst (λ (x : Setting). AreReaders x.contents.spec r) (sym same)

pub talked_at : (e : Editing) (spec : Spec) (width height : ℕ) (r : Readers) (s : Session) (old new : Outside) (status : Status) → spec_in e ≡ spec → width_in e ≡ width → height_in e ≡ height → session_of e ≡ s
    → Talked (desk_in e r) (session_of e) old status new → Talked (desk spec width height r) s old status new
talked_at e spec width height r s old new status a b c is talked =
    subst (λ (x : Session). Talked (desk spec width height r) x old status new) is
    (subst (λ (x : Desk). Talked x (session_of e) old status new) (λ i. desk (a i) (b i) (c i) r) talked)
