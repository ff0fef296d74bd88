use Rattle.std.proofs.Common.{◌≡◌, ◌∙◌, ℕ, ◌<◌, ◌≤◌, true, List, Some, length, get_or, refl, ap, subst, map, take_all}
use Rattle.std.specs.Prelude.{slice_get}
use Rattle.std.proofs.lemmas.Option.{slice_get_read}
use Rattle.sg_kinds.specs.declared.spec.Far.{Far}
use Rattle.sg_names.specs.Rows.{row_at}
use Rattle.sg_remote.specs.Bearing.{borne, edges, users}
use Rattle.sg_remote.specs.Keys.{list_of}
use Rattle.sg_remote.specs.Lists.{lists_of}
use Rattle.sg_remote.specs.Longer.{more}
use Rattle.sg_remote.specs.Reach.{reached}
use Rattle.sg_remote.proofs.Longer.{more_step}
use Rattle.sg_remote.proofs.far_attrs.far_attrs.Goals as goal

pub loop-place-preserved : goal.loop-place-preserved
loop-place-preserved c =
    let t = c.args.names.now in
    let rs = c.args.atoms.now in
    let list = c.list-item.result in
    let items : c.deref-list-items.result.now ≡ lists_of rs = c.deref-list-items.ensures.value ∙ c.in_ok-each.ensures ∙ ap (map (λ k. list_of k.items)) c.as_slice.ensures.keys ∙ c.requires in
    let low : c.loop-place.place < length (lists_of rs) = subst (λ (fss : List (List Far)). c.loop-place.place < length fss) items c.loop-place-test.true in
    let is : list ≡ get_or (lists_of rs) c.loop-place.place list = subst (λ (fss : List (List Far)). list ≡ get_or fss c.loop-place.place list) items c.list-item.is in
    let there : slice_get (lists_of rs) c.loop-place.place ≡ Some list = slice_get_read (lists_of rs) (length (lists_of rs)) c.loop-place.place list refl low is in
    let bears : c.deref-in-loop-place.result.now ≡ borne t rs list =
    c.deref-in-loop-place.ensures.value ∙ c.in_ok-flags.ensures
    ∙ ap (λ (us : List ℕ). reached us (edges true c.as_slice-in-loop-place.result.now t.ops)) (c.users_at.ensures ∙ c.in_ok-users.ensures c.loop-place.place list there)
    ∙ ap (λ (fs : List Far). reached (users t list rs) (edges true fs t.ops)) c.as_slice-in-loop-place.ensures in
    more_step t rs (lists_of rs) c.loop-place.place list c.deref-in-loop-place.result.now (row_at c.loop-place.rows) (row_at c.add_attrs.new.rows)
    low is bears c.loop-place.invariant c.in_ok-add_attrs.ensures

pub returns : goal.returns
returns c =
    let rs = c.args.atoms.now in
    let items : c.deref-list-items.result.now ≡ lists_of rs = c.deref-list-items.ensures.value ∙ c.in_ok-each.ensures ∙ ap (map (λ k. list_of k.items)) c.as_slice.ensures.keys ∙ c.requires in
    let past : length (lists_of rs) ≤ c.loop-place.place = subst (λ (fss : List (List Far)). length fss ≤ c.loop-place.place) items c.loop-place-test.false in
    λ p. c.loop-place.invariant p ∙ ap (λ (fss : List (List Far)). more c.args.names.now rs fss p) (take_all c.loop-place.place (lists_of rs) past)
