use Rattle.std.proofs.Common.{◌∷◌, [], ◌++◌, reverse, ap, ◌∙◌, arith}
use Rattle.sg_saved.proofs.Pieces.{no_note, some-seen, whole-left}
use Rattle.sg_saved.proofs.Checking.{none-checked, seen-looked, one-checked, one-misfits, all-checked}
use Rattle.sg_saved.proofs.misfits.first_misfit.Goals as goal

pub loop-note-init : goal.loop-note-init
loop-note-init c = record {
  ready = c.in_ok-matcher.ensures ∙ c.as_slice.ensures;
  checked = λ o. none-checked c.args.spec.now c.args.bytes.now c.args.outline.now.notes.items o.raw c.push.new.self.items
      (c.in_ok-push.ensures.items ∙ ap (λ x. x ++ c.args.spec.now.root ∷ []) c.new-wanted.ensures.items) (whole-left c.args.bytes.now c.args.outline.now o);
}

pub head_at-requires : goal.head_at-requires
head_at-requires c = some-seen c.args.bytes.now c.args.outline.now c.requires.file c.deref-note-items.result.now c.deref-note-items.ensures.value c.loop-note.note-index no_note c.loop-note-test.true

pub returns-then-not-head_fits : goal.returns-then-not-head_fits
returns-then-not-head_fits c =
    let file = c.requires.file in
    let l = seen-looked c.args.spec.now c.args.bytes.now c.args.outline.now.notes.items file.raw c.deref-note-items.result.now c.deref-note-items.ensures.value c.loop-note.note-index no_note
    c.loop-note.wanted.items c.pop.new.self.items c.pop.result c.unwrap_or-phylum.result c.args.spec.now.root c.in_ok-head.head c.head_fits.result
    c.loop-note-test.true (c.loop-note.invariant.checked file) c.pop.ensures.items (λ h. c.pop.ensures.variant.1 (omega (arith, c.loop-note.wanted.ok.0))) c.unwrap_or-phylum.ensures
    (λ r n. c.in_ok-head.ensures c.args.spec.now r c.requires.names n) c.head_fits.ensures.fits in
    record {
      raw = file.raw;
      is = file.is;
      same = file.same;
      misfit = one-misfits _ _ _ _ _ _ _ _ _ _ _ l c.if-not-head_fits.true;
    }

pub loop-note-preserved : goal.loop-note-preserved
loop-note-preserved c = record {
  ready = c.head_fits.ensures.same ∙ c.loop-note.invariant.ready;
  checked = λ o.
      let l = seen-looked c.args.spec.now c.args.bytes.now c.args.outline.now.notes.items o.raw c.deref-note-items.result.now c.deref-note-items.ensures.value c.loop-note.note-index no_note
      c.loop-note.wanted.items c.pop.new.self.items c.pop.result c.unwrap_or-phylum.result c.args.spec.now.root c.in_ok-head.head c.head_fits.result
      c.loop-note-test.true (c.loop-note.invariant.checked o) c.pop.ensures.items (λ h. c.pop.ensures.variant.1 (omega (arith, c.loop-note.wanted.ok.0))) c.unwrap_or-phylum.ensures
      (λ r n. c.in_ok-head.ensures c.args.spec.now r c.requires.names n) c.head_fits.ensures.fits in
      one-checked _ _ _ _ _ _ _ _ _ _ _ _ l c.if-not-head_fits.false (c.in_ok-push_all.ensures ∙ ap (λ ps. ps ++ reverse c.pop.new.self.items) c.args_of.ensures);
}

pub returns : goal.returns
returns c = λ o. all-checked c.args.spec.now c.args.bytes.now c.args.outline.now.notes.items o.raw c.loop-note.note-index c.loop-note.wanted.items (omega (arith, c.deref-note-items.ensures.len)) (c.loop-note.invariant.checked o)
