-- What is kept of all buffers.
use Rattle.std.specs.Prelude.{◌≡◌, ℕ, ◌<◌, [], ◌∷◌, slice_get, Option, Some, MatchOption, ⊤}
use Rattle.std.proofs.Common.{sym, subst, arith, length-append, length-set}
use Rattle.std.proofs.lemmas.List.Elements.{All-append, All-nil, All-cons, All-set, All-get_or}
use Rattle.std.proofs.lemmas.Option.{get_or_from_slice_get, slice_get_within, option_and_then_some}
use Rattle.sg_kinds.specs.Values.{Bytes}
use Rattle.sg_kinds.specs.declared.spec.Spec.{Spec}
use Rattle.sg_edits.specs.declared.clip.Clip.{Clip}
use Rattle.sg_buffer.specs.Held.{Held}
use Rattle.sg_commands.specs.Clipped.{IsClip}
use Rattle.sg_editor.specs.declared.desk.Named.{Named}
use Rattle.sg_editor.specs.Editing.{Kept, IsKept, IsOver, current_in}
use Rattle.sg_editor.proofs.Taken.{after, opened}

module _ (spec : Spec) (height : ℕ) (k : Kept) (kept : IsKept spec height k) where
  abbrev Over : Named → Type 0
  Over b = IsOver spec height b.buffer

  -- each buffer
  pub over_at : (i : ℕ) (b : Named) → slice_get k.buffers i ≡ Some b → IsOver spec height b.buffer
  over_at i b here = subst Over (get_or_from_slice_get k.buffers i b b here) (All-get_or Over k.buffers i b (slice_get_within k.buffers i b here) kept.over)

  pub over_current : (b : Named) → current_in k ≡ Some b → IsOver spec height b.buffer
  over_current b here = option_and_then_some (slice_get k.buffers) k.current b here (λ i at here. over_at i b here)

  -- a new buffer, and a buffer that was turned
  pub opened_kept : (name : Bytes) (h : Held) → IsOver spec height h → IsKept spec height (opened k name h)
  opened_kept name h over = record {
    over = All-append Over k.buffers (record { name = name; buffer = h } ∷ []) kept.over (All-cons Over (record { name = name; buffer = h }) [] over (All-nil Over));
    current = let e = length-append k.buffers (record { name = name; buffer = h } ∷ []) in omega (arith, e);
    clip = kept.clip;
  }

  pub after_kept : (i : ℕ) (b : Named) (h : Held) (clip : Option Clip) → IsOver spec height h → IsClip spec clip → IsKept spec height (after k i b h clip)
  after_kept i b h clip over fits = record {
    over = All-set Over k.buffers i (record b { buffer = h }) over kept.over;
    current = subst (λ (n : ℕ). MatchOption k.current ⊤ (λ j. j < n)) (sym (length-set k.buffers i (record b { buffer = h }))) kept.current;
    clip = fits;
  }
