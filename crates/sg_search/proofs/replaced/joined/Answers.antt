use Rattle.std.proofs.Common.{◌++◌, ◌∷◌, [], take, sym, ap, ◌∙◌, subst}
use Rattle.std.proofs.lemmas.Option.{same_Some}
use Rattle.sg_kinds.specs.Terms.{Term}
use Rattle.sg_build.proofs.Told.{taken_more, the_term, told_only}
use Rattle.sg_select.specs.Around.{kids}
use Rattle.sg_search.specs.Found.{applies_to}
use Rattle.sg_search.specs.Made.{AreMade, IsMade}
use Rattle.sg_search.specs.ReplacedAll.{fault_to, made_to}
use Rattle.sg_search.specs.declared.replaced.WalkedRow.TheVariants as row
use Rattle.sg_search.proofs.Children.{kid_at}
use Rattle.sg_search.proofs.Rows.{new_new, new_over, new_same, over_any, same_new, same_over, same_same, term_whole}
use Rattle.sg_search.proofs.replaced.joined.Goals as goal

pub returns-in-Same-new : goal.returns-in-Same-new
returns-in-Same-new c = λ name x y old mid now holds at before after.
    let spec = c.args.terms.now.spec in
    let xs = take c.args.k (kids x) in
    let b = subst (AreMade spec name xs old mid) c.in-Same.is before in
    let a = subst (IsMade spec name y mid now) c.in-Same-new.is after in
    subst (λ l. AreMade spec name l old now row.Same) (sym (taken_more (kids x) c.args.k y at))
    (same_same (applies_to spec name) (fault_to spec name) (made_to spec name) xs y old mid now b.0 b.1 a.0 a.1)

pub returns-in_ok-push-in-New-new : goal.returns-in_ok-push-in-New-new
returns-in_ok-push-in-New-new c = λ name x y old mid now holds at before after.
    let spec = c.args.terms.now.spec in
    let xs = take c.args.k (kids x) in
    let s = c.in-New-new.term in
    let b = subst (AreMade spec name xs old mid) c.in-Same.is before in
    let a = subst (IsMade spec name y mid now) c.in-New-new.is after in
    let items = c.in_ok-push-in-New-new.ensures.items ∙ ap (λ l. l ++ s ∷ []) (c.in_ok-all-in-New-new.ensures x holds) in
    subst (λ l. AreMade spec name l old now (row.New c.push.new.self)) (sym (taken_more (kids x) c.args.k y at))
    (same_new (applies_to spec name) (fault_to spec name) (made_to spec name) xs y old mid now s c.push.new.self.items b.0 b.1 a items)

pub returns-in-Over-new : goal.returns-in-Over-new
returns-in-Over-new c = λ name x y old mid now holds at before after.
    let spec = c.args.terms.now.spec in
    let xs = take c.args.k (kids x) in
    let b = subst (AreMade spec name xs old mid) c.in-Same.is before in
    let a = subst (IsMade spec name y mid now) c.in-Over-new.is after in
    subst (λ l. AreMade spec name l old now row.Over) (sym (taken_more (kids x) c.args.k y at))
    (same_over (applies_to spec name) (fault_to spec name) (made_to spec name) xs y old mid now b.0 b.1 a)

pub returns-in_ok-push-in-Same-new-2 : goal.returns-in_ok-push-in-Same-new-2
returns-in_ok-push-in-Same-new-2 c = λ name x y old mid now holds at before after.
    let g = c.args.terms.now in
    let spec = g.spec in
    let xs = take c.args.k (kids x) in
    let b = subst (AreMade spec name xs old mid) c.in-New.is before in
    let a = subst (IsMade spec name y mid now) c.in-Same-new-2.is after in
    let kid = kid_at g c.facts.ensures c.args.n c.kid.result c.args.k x c.requires.live c.kid.ensures.child holds in
    let same = told_only g c.facts.ensures c.kid.result c.in_ok-copy_out-in-Same-new-2.field-0 c.in_ok-copy_out-in-Same-new-2.ensures ∙ same_Some (the_term g c.kid.result) y (sym kid ∙ at) in
    let items = c.in_ok-push-in-Same-new-2.ensures.items ∙ ap (λ (s : Term). c.in-New.all.items ++ s ∷ []) same in
    subst (λ l. AreMade spec name l old now (row.New c.push-in-Same-new-2.new.self)) (sym (taken_more (kids x) c.args.k y at))
    (new_same (applies_to spec name) (fault_to spec name) (made_to spec name) xs y old mid now c.in-New.all.items c.push-in-Same-new-2.new.self.items b a.0 a.1 items)

pub returns-in_ok-push-in-New-new-2 : goal.returns-in_ok-push-in-New-new-2
returns-in_ok-push-in-New-new-2 c = λ name x y old mid now holds at before after.
    let spec = c.args.terms.now.spec in
    let xs = take c.args.k (kids x) in
    let s = c.in-New-new-2.term in
    let b = subst (AreMade spec name xs old mid) c.in-New.is before in
    let a = subst (IsMade spec name y mid now) c.in-New-new-2.is after in
    subst (λ l. AreMade spec name l old now (row.New c.push-in-New-new-2.new.self)) (sym (taken_more (kids x) c.args.k y at))
    (new_new (applies_to spec name) (fault_to spec name) (made_to spec name) xs y old mid now s c.in-New.all.items c.push-in-New-new-2.new.self.items b a c.in_ok-push-in-New-new-2.ensures.items)

pub returns-in-Over-new-2 : goal.returns-in-Over-new-2
returns-in-Over-new-2 c = λ name x y old mid now holds at before after.
    let spec = c.args.terms.now.spec in
    let xs = take c.args.k (kids x) in
    let b = subst (AreMade spec name xs old mid) c.in-New.is before in
    let a = subst (IsMade spec name y mid now) c.in-Over-new-2.is after in
    subst (λ l. AreMade spec name l old now row.Over) (sym (taken_more (kids x) c.args.k y at))
    (new_over (applies_to spec name) (fault_to spec name) (made_to spec name) xs y old mid now c.in-New.all.items b a)

pub returns-in-Over : goal.returns-in-Over
returns-in-Over c = λ name x y old mid now holds at before after.
    let spec = c.args.terms.now.spec in
    let xs = take c.args.k (kids x) in
    let b = subst (AreMade spec name xs old mid) c.in-Over.is before in
    subst (λ l. AreMade spec name l old now row.Over) (sym (taken_more (kids x) c.args.k y at))
    (over_any (applies_to spec name) (fault_to spec name) (made_to spec name) xs y old mid now b (term_whole spec name y mid now c.args.new after))
