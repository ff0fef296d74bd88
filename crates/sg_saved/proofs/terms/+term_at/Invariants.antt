use Rattle.std.proofs.Common.{◌≡◌, ℕ, List}
use Rattle.sg_saved_form.specs.Files.{Raw}
use Rattle.sg_saved_form.specs.declared.notes.Note.{Note}
use Rattle.sg_saved.specs.Ahead.{IsAhead}
use Rattle.sg_saved.proofs.Pieces.{kids_of}
use Rattle.sg_saved.proofs.Planting.{AreRead}
use Rattle.sg_saved.proofs.terms.+term_at.Given as goal

abbrev pub decreases-term_at : goal.decreases-term_at
decreases-term_at l = l.room

abbrev pub invariant-loop-phylum : goal.invariant-loop-phylum
invariant-loop-phylum l = record {
  ready : l.matcher ≡ l.source.spec.now.lexemes;
  head : l.head ≡ l.initial.head;
  read : (at : ℕ) (r : Raw) (behind : List Note) → IsAhead l.source.bytes.now l.source.outline.now.notes.items l.fn.next at r behind
      → AreRead l.source.spec.now l.source.outline.now.notes.items l.args (kids_of at r) behind l.phylum-index l.kids.items l.next;
}
