-- Keys that are equal by their order are the same.
use Rattle.std.proofs.Common.{◌≡◌, ℕ, true, false, not, ◌&&◌, List, [], bytes_eq, Some, None, option_map, slice_get, refl, ap, ◌∙◌}
use Rattle.std.specs.BTreeMap.{is_at}
use Rattle.std.specs.Cmp.Lexicographic.{slice_cmp}
use Rattle.std.specs.Ordering.{nat_cmp, is_eq}
use Rattle.std.proofs.lemmas.Map.Text.{is_eq-slice_cmp}
use Rattle.std.proofs.lemmas.Option.{slice_get-map}
use Rattle.sg_ast.specs.FirstFault.{first_repeat}
use Rattle.sg_counts.specs.Definitions.{is_same_key, is_same_space, clashes, adds_up}
use Rattle.sg_counts.specs.DefinitionsView.{space_of, key_of, definition_of, seen_of}
use Rattle.sg_counts.specs.declared.definitions.Space.{Space}
use Rattle.sg_counts.specs.declared.definitions.Space.TheVariants.{Phyla, Callables, Listings, Attributes, Locals, Schemes, Literals, Remotes}
use Rattle.sg_counts.specs.declared.definitions.Key.{Key}
use Rattle.sg_counts.specs.declared.definitions.Definition.{Definition}
use Rattle.sg_counts.specs.contracts.definitions.SpaceOrd.TheImpl as space_order
use Rattle.sg_counts.specs.contracts.definitions.KeyOrd.TheImpl as key_order
use Rattle.sg_counts.proofs.Names.{both_equal, same_number}
use Rattle.sg_counts.proofs.Seen.{repeat_seen}

same_spaces : (a b : Space) → is_eq (space_order.ghosts.cmp a b) ≡ is_same_space (space_of a) (space_of b)
same_spaces Phyla Phyla = refl
same_spaces Callables Callables = refl
same_spaces Listings Listings = refl
same_spaces (Attributes p) (Attributes q) = is_eq-slice_cmp p.now q.now
same_spaces (Locals p o) (Locals q r) =
    both_equal (slice_cmp nat_cmp p.now q.now) (slice_cmp nat_cmp o.now r.now) ∙ ap (λ t. t && is_eq (slice_cmp nat_cmp o.now r.now)) (is_eq-slice_cmp p.now q.now) ∙ ap (λ t. bytes_eq p.now q.now && t) (is_eq-slice_cmp o.now r.now)
same_spaces (Schemes p None) (Schemes q None) = both_equal (slice_cmp nat_cmp p.now q.now) _ ∙ ap (λ t. t && true) (is_eq-slice_cmp p.now q.now)
same_spaces (Schemes p (Some v)) (Schemes q (Some w)) =
    both_equal (slice_cmp nat_cmp p.now q.now) (slice_cmp nat_cmp v.now w.now) ∙ ap (λ t. t && is_eq (slice_cmp nat_cmp v.now w.now)) (is_eq-slice_cmp p.now q.now) ∙ ap (λ t. bytes_eq p.now q.now && t) (is_eq-slice_cmp v.now w.now)
same_spaces (Schemes p None) (Schemes q (Some w)) = both_equal (slice_cmp nat_cmp p.now q.now) _ ∙ ap (λ t. t && false) (is_eq-slice_cmp p.now q.now)
same_spaces (Schemes p (Some v)) (Schemes q None) = both_equal (slice_cmp nat_cmp p.now q.now) _ ∙ ap (λ t. t && false) (is_eq-slice_cmp p.now q.now)
same_spaces Literals Literals = refl
same_spaces (Remotes a) (Remotes b) = same_number a b
same_spaces a b = refl

pub same_keys : (a b : Key) → is_at (key_order.ghosts.cmp a) b ≡ is_same_key (key_of a) (key_of b)
same_keys a b =
    both_equal (space_order.ghosts.cmp a.space b.space) (slice_cmp nat_cmp a.name.now b.name.now)
    ∙ ap (λ t. t && is_eq (slice_cmp nat_cmp a.name.now b.name.now)) (same_spaces a.space b.space)
    ∙ ap (λ t. is_same_space (space_of a.space) (space_of b.space) && t) (is_eq-slice_cmp a.name.now b.name.now)

pub clash_seen : (ds : List (Definition Key)) → first_repeat (clashes (λ a b. is_at (key_order.ghosts.cmp a) b)) ds ≡ first_repeat (clashes is_same_key) (seen_of ds)
clash_seen ds =
    repeat_seen (clashes (λ a b. is_at (key_order.ghosts.cmp a) b)) (clashes is_same_key) definition_of
    (λ a b. ap (λ t. t && not (adds_up a.form b.form)) (same_keys a.key b.key)) [] 0 ds

pub seen_at : (ds : List (Definition Key)) (k : ℕ) → slice_get (seen_of ds) k ≡ option_map definition_of (slice_get ds k)
seen_at ds k = slice_get-map definition_of ds k
