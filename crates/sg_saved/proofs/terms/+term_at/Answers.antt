use Rattle.std.proofs.Common.{◌≡◌, ℕ, ◌+◌, ◌-◌, ◌<◌, ◌≤◌, false, true, [], ◌∷◌, ◌++◌, length, refl, sym, ap, ◌∙◌, arith}
use Rattle.std.proofs.lemmas.Result.{err_from_is_err_and}
use Rattle.sg_saved.specs.Heads.{args_in}
use Rattle.sg_saved.proofs.Checking.{part_at}
use Rattle.sg_saved.proofs.Pieces.{kids_of}
use Rattle.sg_saved.proofs.Planting.{IsOver, note-ahead, from-here, kids-ahead, kid-ahead, kid-height, head-misfits, none-read, one-read, kid-refused, all-read, count-same, parts-over, made-over, no_piece}
use Rattle.sg_saved.proofs.terms.+term_at.Goals as goal

pub head_at-requires : goal.head_at-requires
head_at-requires t c =
    let a = c.requires.ahead in
    (a.1, note-ahead c.args.source.now.bytes.now c.args.source.now.outline.now.notes.items c.args.next.now a.0 a.1 a.2 a.3 c.index-note.result.now c.index-note.ensures)

pub returns-then-not-head_fits-clause-read : goal.returns-then-not-head_fits-clause-read
returns-then-not-head_fits-clause-read t c = λ at r behind a.
    let bytes = c.args.source.now.bytes.now in
    let notes = c.args.source.now.outline.now.notes.items in
    let note = c.index-note.result.now in
    let h = c.in_ok-head.ensures c.args.source.now.spec.now r c.requires.names (note-ahead bytes notes c.args.next.now at r behind a note c.index-note.ensures) in
    let told = c.head_fits.ensures.fits r a.is h in
    head-misfits c.args.source.now.spec.now c.args.wanted at r note.from (from-here bytes notes c.args.next.now at r behind a note c.index-note.ensures)
    (λ fits. let e : false ≡ true = sym c.if-not-head_fits.true ∙ told.1 fits in cc)

pub loop-phylum-init : goal.loop-phylum-init
loop-phylum-init t c = record {
  ready = c.head_fits.ensures.same ∙ c.requires.ready;
  head = refl;
  read = λ at r behind a.
      let spec = c.args.source.now.spec.now in
      let bytes = c.args.source.now.bytes.now in
      let notes = c.args.source.now.outline.now.notes.items in
      let note = c.index-note.result.now in
      let args = c.args_of-args.result.now in
      let h = c.in_ok-head.ensures spec r c.requires.names (note-ahead bytes notes c.args.next.now at r behind a note c.index-note.ensures) in
      let told = c.head_fits.ensures.fits r a.is h in
      let o : IsOver spec c.args.wanted at r args = record { fits = told.0 c.if-not-head_fits.false; are = c.args_of-args.ensures ∙ ap (args_in spec) h } in
      none-read spec notes args (kids_of at r) behind (count-same spec c.args.wanted at r args o) c.in_ok-kids.kids.items (c.args.next.now + 1) c.in_ok-kids.ensures.items
      (kids-ahead bytes notes c.args.next.now at r behind a note c.index-note.ensures);
}

pub term_at-requires : goal.term_at-requires
term_at-requires t c =
    let spec = c.args.source.now.spec.now in
    let bytes = c.args.source.now.bytes.now in
    let notes = c.args.source.now.outline.now.notes.items in
    let args = c.args_of-args.result.now in
    let k = c.loop-phylum.phylum-index in
    let f = c.requires.ahead in
    let at = f.0 in
    let r = f.1 in
    let a = f.3 in
    let h = c.in_ok-head.ensures spec r c.requires.names (note-ahead bytes notes c.args.next.now at r f.2 a c.index-note.result.now c.index-note.ensures) in
    let told = c.head_fits.ensures.fits r a.is h in
    let o : IsOver spec c.args.wanted at r args = record { fits = told.0 c.if-not-head_fits.false; are = c.args_of-args.ensures ∙ ap (args_in spec) h } in
    let same = count-same spec c.args.wanted at r args o in
    let less : k < length (kids_of at r) = omega (arith, same, c.loop-phylum-test.true) in
    let low = kid-height at r k less in
    let deep = f.4 in
    (omega (arith, low, deep), (c.loop-phylum.invariant.ready, (c.requires.names, (_, _, _, kid-ahead bytes notes c.args.next.now at r f.2 a k c.loop-phylum.next less (c.loop-phylum.invariant.read at r f.2 a).rest, omega (arith, low, deep)))))

pub returns-in_err-kid-clause-read : goal.returns-in_err-kid-clause-read
returns-in_err-kid-clause-read t c = λ at r behind a.
    let spec = c.args.source.now.spec.now in
    let bytes = c.args.source.now.bytes.now in
    let notes = c.args.source.now.outline.now.notes.items in
    let args = c.args_of-args.result.now in
    let k = c.loop-phylum.phylum-index in
    let h = c.in_ok-head.ensures spec r c.requires.names (note-ahead bytes notes c.args.next.now at r behind a c.index-note.result.now c.index-note.ensures) in
    let told = c.head_fits.ensures.fits r a.is h in
    let o : IsOver spec c.args.wanted at r args = record { fits = told.0 c.if-not-head_fits.false; are = c.args_of-args.ensures ∙ ap (args_in spec) h } in
    let same = count-same spec c.args.wanted at r args o in
    let less : k < length (kids_of at r) = omega (arith, same, c.loop-phylum-test.true) in
    let so_far = c.loop-phylum.invariant.read at r behind a in
    let ahead = kid-ahead bytes notes c.args.next.now at r behind a k c.loop-phylum.next less so_far.rest in
    let p = err_from_is_err_and c.from_residual-in_err-kid.result c.from_residual-in_err-kid.ensures.1 in
    rw (p.1, p.2)
    (kid-refused spec notes args (kids_of at r) behind same k c.loop-phylum.kids.items c.loop-phylum.next so_far c.loop-phylum-test.true c.phylum-item.result c.phylum-item.is
    (part_at spec c.args.wanted at r) (o.fits, tt) c.args.wanted at r (parts-over spec c.args.wanted at r args o) c.in_err-kid.field-0.0 (c.in_err-kid.ensures.read _ _ _ ahead))

pub loop-phylum-preserved : goal.loop-phylum-preserved
loop-phylum-preserved t c = record {
  ready = c.term_at.ensures.same ∙ c.loop-phylum.invariant.ready;
  head = c.loop-phylum.invariant.head;
  read = λ at r behind a.
      let spec = c.args.source.now.spec.now in
      let bytes = c.args.source.now.bytes.now in
      let notes = c.args.source.now.outline.now.notes.items in
      let args = c.args_of-args.result.now in
      let k = c.loop-phylum.phylum-index in
      let h = c.in_ok-head.ensures spec r c.requires.names (note-ahead bytes notes c.args.next.now at r behind a c.index-note.result.now c.index-note.ensures) in
      let told = c.head_fits.ensures.fits r a.is h in
      let o : IsOver spec c.args.wanted at r args = record { fits = told.0 c.if-not-head_fits.false; are = c.args_of-args.ensures ∙ ap (args_in spec) h } in
      let same = count-same spec c.args.wanted at r args o in
      let less : k < length (kids_of at r) = omega (arith, same, c.loop-phylum-test.true) in
      let so_far = c.loop-phylum.invariant.read at r behind a in
      let ahead = kid-ahead bytes notes c.args.next.now at r behind a k c.loop-phylum.next less so_far.rest in
      one-read spec notes args (kids_of at r) behind same k c.loop-phylum.kids.items c.loop-phylum.next so_far c.loop-phylum-test.true c.phylum-item.result c.phylum-item.is
      c.in_ok-kid.kid c.push_kid.new.kids.items c.term_at.new.next (c.in_ok-kid.ensures.read _ _ _ ahead) (c.in_ok-kid.ensures.next _ _ _ ahead) c.in_ok-push_kid.ensures;
}

pub returns-clause-read : goal.returns-clause-read
returns-clause-read t c = λ at r behind a.
    let spec = c.args.source.now.spec.now in
    let bytes = c.args.source.now.bytes.now in
    let notes = c.args.source.now.outline.now.notes.items in
    let args = c.args_of-args.result.now in
    let h = c.in_ok-head.ensures spec r c.requires.names (note-ahead bytes notes c.args.next.now at r behind a c.index-note.result.now c.index-note.ensures) in
    let told = c.head_fits.ensures.fits r a.is h in
    let o : IsOver spec c.args.wanted at r args = record { fits = told.0 c.if-not-head_fits.false; are = c.args_of-args.ensures ∙ ap (args_in spec) h } in
    let all = all-read spec notes args (kids_of at r) behind (count-same spec c.args.wanted at r args o) c.loop-phylum.phylum-index c.loop-phylum.kids.items c.loop-phylum.next (c.loop-phylum.invariant.read at r behind a) c.loop-phylum-test.false in
    made-over spec c.args.wanted at r args o _ c.loop-phylum.kids.items c.term_over.result (c.loop-phylum.invariant.head ∙ h) c.term_over.ensures all.0 all.1

pub returns-clause-next : goal.returns-clause-next
returns-clause-next t c = λ at r behind a.
    let spec = c.args.source.now.spec.now in
    let bytes = c.args.source.now.bytes.now in
    let notes = c.args.source.now.outline.now.notes.items in
    let args = c.args_of-args.result.now in
    let h = c.in_ok-head.ensures spec r c.requires.names (note-ahead bytes notes c.args.next.now at r behind a c.index-note.result.now c.index-note.ensures) in
    let told = c.head_fits.ensures.fits r a.is h in
    let o : IsOver spec c.args.wanted at r args = record { fits = told.0 c.if-not-head_fits.false; are = c.args_of-args.ensures ∙ ap (args_in spec) h } in
    (all-read spec notes args (kids_of at r) behind (count-same spec c.args.wanted at r args o) c.loop-phylum.phylum-index c.loop-phylum.kids.items c.loop-phylum.next (c.loop-phylum.invariant.read at r behind a) c.loop-phylum-test.false).2
