use Rattle.std.proofs.Common.{◌≡◌, ℕ, ◌<◌, [], sym, ap, ◌∙◌, subst, arith, length, get_or, map}
use Rattle.std.specs.Prelude.{slice_index_or, Contains}
use Rattle.std.proofs.lemmas.List.{take_all, get_or_default, get_or-map, length-map, length-replicate}
use Rattle.std.proofs.lemmas.List.Elements.{Contains-get_or}
use Rattle.sg_sets.specs.Members.{Has}
use Rattle.sg_lalr.specs.Items.{Item, item}
use Rattle.sg_lalr.specs.Closure.{AreOpened}
use Rattle.sg_lalr.proofs.ClosureLemmas.{none-held}
use Rattle.sg_lalr.proofs.OpeningLemmas.{opens-within, opened-none, gains-openings, OpenedBy, by-none, by-more, by-same}
use Rattle.sg_lalr.proofs.closure.open_all.Goals as goal
use Rattle.sg_lalr.proofs.closure.open_all.Goals.{in-Some+in_ok-open, in_default}

pub loop-item-init : goal.loop-item-init
loop-item-init c =
    let there = c.in_ok-there.there in
    let none : (q : ℕ) → Has there q → ⊥ = λ q h. none-held (length c.rules.result.now) q (subst (λ s. Has s q) c.in_ok-there.ensures h) in
    record {
      width = ap length c.in_ok-there.ensures ∙ length-replicate (length c.rules.result.now) _ ∙ ap length c.rules.ensures;
      opened = subst (AreOpened there) (sym c.new-opened.ensures.items) (opened-none there none);
      exact = by-none c.args.g.now there none;
    }

pub open-requires-clause-within : goal.open-requires-clause-within
open-requires-clause-within c k d l =
    let g = c.args.g.now in
    let lists = map (λ v. v.items) c.args.opens.now in
    let x = c.in-Some.x in
    let count = c.requires.opens.count in
    let wide = c.loop-item.invariant.width in
    let below = c.in-Some.ensures.within in
    let low : x < length c.args.opens.now = omega (arith, below, count, length-map c.args.opens.now (λ v. v.items)) in
    let is : c.deref.result.now ≡ slice_index_or lists x [] = c.deref.ensures.value ∙ ap (λ v. v.items) c.index-opens-x.is ∙ sym (get_or-map (λ v. v.items) c.args.opens.now x c.index-opens-x.result [] low) in
    let q = slice_index_or c.deref.result.now k d in
    let o = (c.requires.opens.exact x q).0 (subst (λ s. Contains s q) is (Contains-get_or c.deref.result.now k d l)) in
    let few = opens-within g.rules x q o in
    omega (arith, few, wide)

pub loop-item-preserved : goal.loop-item-preserved
loop-item-preserved c =
    let g = c.args.g.now in
    let kernel = c.args.kernel.now in
    let n = c.loop-item.item-index in
    let i : Item = get_or kernel n (item 0 0) in
    let reads : i ≡ get_or kernel n i = get_or_default kernel n (item 0 0) i c.loop-item-test.true in
    let inv = c.loop-item.invariant in
    elim c.match-symbol_of.branch [
      | in-Some+in_ok-open w ↦
          let lists = map (λ v. v.items) c.args.opens.now in
          let x = w.in-Some.x in
          let count = c.requires.opens.count in
          let below = w.in-Some.ensures.within in
          let low : x < length c.args.opens.now = omega (arith, below, count, length-map c.args.opens.now (λ v. v.items)) in
          let is : w.deref.result.now ≡ slice_index_or lists x [] = w.deref.ensures.value ∙ ap (λ v. v.items) w.index-opens-x.is ∙ sym (get_or-map (λ v. v.items) c.args.opens.now x w.index-opens-x.result [] low) in
          rw (w.there-is, w.opened-is) (record {
            width = w.open.ensures.width ∙ inv.width;
            opened = w.in_ok-open.ensures.opened;
            exact = by-more g kernel n i c.loop-item-test.true reads c.loop-item.there w.open.new.there x (sym c.symbol_of.ensures.symbol ∙ w.in-Some.is) inv.exact
                (gains-openings g lists c.loop-item.there w.open.new.there w.deref.result.now x c.requires.opens is w.in_ok-open.ensures.gains);
          })
      | in_default w ↦ rw (w.there-is, w.opened-is) (record {
        width = inv.width;
        opened = inv.opened;
        exact = by-same g kernel n i c.loop-item-test.true reads c.loop-item.there (sym c.symbol_of.ensures.symbol ∙ w.in_default.is) inv.exact;
      })
    ]

pub returns-clause-exact : goal.returns-clause-exact
returns-clause-exact c =
    let inv = c.loop-item.invariant in
    let kernel = c.args.kernel.now in
    let by : OpenedBy c.args.g.now c.loop-item.there kernel = subst (OpenedBy c.args.g.now c.loop-item.there) (take_all c.loop-item.item-index kernel (let f = c.loop-item-test.false in omega (arith, f))) inv.exact in
    λ q. (λ h. (by q).0 ((inv.opened.exact q).0 h), λ h. (inv.opened.exact q).1 ((by q).1 h))
