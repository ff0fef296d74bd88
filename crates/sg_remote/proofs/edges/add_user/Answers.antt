use Rattle.std.proofs.Common.{◌≡◌, ◌∙◌, ℕ, List, [], ◌∷◌, ◌++◌, Some, None, nat_eq, refl, sym, ap, subst, inr, map}
use Rattle.std.specs.Prelude.{if◌then◌else◌, position, option_map, slice_get}
use Rattle.sg_kinds.specs.Far.{same_far}
use Rattle.sg_kinds.specs.Specification.{phylum_of}
use Rattle.sg_kinds.specs.declared.spec.Far.{Far}
use Rattle.sg_kinds.specs.declared.spec.Operator.{Operator}
use Rattle.sg_names.specs.Rows.{row_at}
use Rattle.sg_names.specs.declared.table.Table.{Table}
use Rattle.sg_remote.specs.Keys.{list_of}
use Rattle.sg_remote.specs.declared.atoms.Atom.{Atom}
use Rattle.sg_remote.proofs.Users.{used, unused}
use Rattle.sg_remote.proofs.edges.add_user.Goals as goal

pub returns : goal.returns
returns c =
    let list : c.as_slice.result.now ≡ c.args.atom.now.list = c.as_slice.ensures ∙ ap (λ (a : Atom). a.list) c.atom.view_is in
    let found : position (λ fs. same_far fs c.args.atom.now.list) (map (λ k. list_of k.items) c.args.lists.now.keys) ≡ Some c.in_ok-number.field-0 =
    subst (λ (l : List Far). position (λ fs. same_far fs l) (map (λ k. list_of k.items) c.args.lists.now.keys) ≡ Some c.in_ok-number.field-0) list
    (sym c.in_ok-place.ensures ∙ c.in-Some.is ∙ ap Some (sym c.in_ok-number.ensures)) in
    let at : slice_get c.args.names.now.ops c.args.atom.now.op ≡ Some c.in-Some-place.operator.now =
    ap (λ (t : Table). slice_get t.ops c.args.atom.now.op) (sym c.table.ensures)
    ∙ ap (slice_get c.table.result.now.ops) (ap (λ (a : Atom). a.op) (sym c.atom.view_is))
    ∙ c.in-Some-place.ensures in
    let left : phylum_of c.args.names.now.ops c.args.atom.now.op ≡ Some c.in-Some-place.operator.now.phylum = ap (option_map (λ (o : Operator). o.phylum)) at in
    used c.args.names.now c.args.atom.now (map (λ k. list_of k.items) c.args.lists.now.keys) (row_at c.args.users.now) (row_at c.put.new.self)
    c.in_ok-number.field-0 c.in-Some-place.operator.now.phylum c.requires found left
    (λ k. c.in_ok-put.ensures k ∙ ap (λ (p : ℕ). row_at c.args.users.now k ++ (if nat_eq c.in_ok-number.field-0 k then p ∷ [] else [])) (ap (λ (o : Operator). o.phylum) c.operator.view_is))

pub returns-in_default : goal.returns-in_default
returns-in_default c =
    let list : c.as_slice.result.now ≡ c.args.atom.now.list = c.as_slice.ensures ∙ ap (λ (a : Atom). a.list) c.atom.view_is in
    unused c.args.names.now c.args.atom.now (map (λ k. list_of k.items) c.args.lists.now.keys) (row_at c.args.users.now) (row_at c.args.users.now) (λ k. refl)
    (inr (subst (λ (l : List Far). position (λ fs. same_far fs l) (map (λ k. list_of k.items) c.args.lists.now.keys) ≡ None) list (sym c.in_ok-place.ensures ∙ c.in_default.is)))
