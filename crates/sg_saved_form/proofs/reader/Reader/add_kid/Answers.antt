use Rattle.std.proofs.Common.{◌≡◌, ◌∙◌, ◌+◌, sym, refl, set, arith}
use Rattle.std.specs.Vec.{with_item}
use Rattle.sg_saved_form.proofs.Noting.{kid-added, read-there}
use Rattle.sg_saved_form.proofs.reader.Reader.add_kid.Goals as goal

pub returns-clause-some : goal.returns-clause-some
returns-clause-some c m o os x after =
    let there = read-there c.deref.result.now c.args.self.now.notes.items c.in-Some.place c.in-Some-get.field-0.now c.in-Some-get.field-0.now c.deref.ensures.value c.in-Some-get.ensures.lookup.0 c.in-Some-get.ensures.lookup.1 refl in
    let kids : c.in-Some-checked_add.kids ≡ c.in-Some-get.field-0.now.kids + 1 = grind arith in (
      refl,
      kid-added c.args.self.now m o os x after
          (record { notes = with_item c.args.self.now.notes c.in-Some.place (record { from = c.in-Some-get.field-0.now.from; kids = c.in-Some-checked_add.kids; what = c.in-Some-get.field-0.now.what }); path = c.args.self.now.path; depth = c.args.self.now.depth; from = c.args.self.now.from; name = c.args.self.now.name; value = c.args.self.now.value; mode = c.args.self.now.mode })
          c.in-Some.place c.in-Some-get.field-0.now (sym c.innermost.ensures ∙ c.in-Some.is) there refl refl refl (λ i. set c.args.self.now.notes.items c.in-Some.place (record { from = c.in-Some-get.field-0.now.from; kids = kids i; what = c.in-Some-get.field-0.now.what })),
    )
