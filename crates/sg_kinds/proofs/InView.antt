-- A specification as it is seen in a view: it differs in the schemes of its operators alone, and is as sound.
use Rattle.std.specs.Prelude.{◌≡◌, refl, ℕ, zero, suc, ◌<◌, ◌≤◌, List, [], ◌∷◌, length, All, Contains, Option, Some, None, slice_get, get_or, option_map, unwrap_or}
use Rattle.std.proofs.Common.{sym, ap, subst, ◌∙◌, arith}
use Rattle.std.proofs.lemmas.Option.{slice_get_within, slice_get-get_or, get_or_from_slice_get}
use Rattle.sg_kinds.specs.Specification.{Spec, Operator, Scheme, Item, args_of, locals_of, phylum_of}
use Rattle.sg_kinds.specs.InView.{row_in_view, schemes_in_view, own_or, ops_in, in_view}
use Rattle.sg_kinds.specs.Typing.{slot_type}
use Rattle.sg_kinds.specs.Sound.{AreCounted, HasSchemes, IsScheme, IsItem, IsShown, root, argument, is_pair}
use Rattle.sg_kinds.specs.declared.spec.Item.TheVariants.{Writes, Child, Shows, Separates}

-- the schemes that an operator has where it is seen with these
abbrev shown_with : List Scheme → Operator → Operator
shown_with ss o = record o { schemes = own_or o.schemes ss }

same_option : (x : Option Operator) → x ≡ option_map (shown_with []) x
same_option None = refl
same_option (Some o) = refl

op_in : (rows : List (List Scheme)) (ops : List Operator) (op : ℕ) → slice_get (ops_in rows ops) op ≡ option_map (shown_with (unwrap_or (slice_get rows op) [])) (slice_get ops op)
unfolding ops_in
op_in [] ops op = same_option (slice_get ops op)
op_in (ss ∷ rows) [] op = refl
op_in (ss ∷ rows) (o ∷ ops) zero = refl
op_in (ss ∷ rows) (o ∷ ops) (suc op) = op_in rows ops op

count_in : (rows : List (List Scheme)) (ops : List Operator) → length (ops_in rows ops) ≡ length ops
unfolding ops_in
count_in [] ops = refl
count_in (ss ∷ rows) [] = refl
count_in (ss ∷ rows) (o ∷ ops) = ap suc (count_in rows ops)

pub ordinary_view : (spec : Spec) → in_view spec 0 ≡ spec
unfolding ops_in
ordinary_view spec = refl

pub op_in_view : (spec : Spec) (v op : ℕ) → slice_get (in_view spec v).ops op ≡ option_map (λ (o : Operator). record o { schemes = own_or o.schemes (schemes_in_view spec.views v op) }) (slice_get spec.ops op)
op_in_view spec v op = op_in (row_in_view spec.views v) spec.ops op

pub count_in_view : (spec : Spec) (v : ℕ) → length (in_view spec v).ops ≡ length spec.ops
count_in_view spec v = count_in (row_in_view spec.views v) spec.ops

args_alike : (ss : List Scheme) (x : Option Operator) → unwrap_or (option_map (λ (o : Operator). o.args) (option_map (shown_with ss) x)) [] ≡ unwrap_or (option_map (λ (o : Operator). o.args) x) []
args_alike ss None = refl
args_alike ss (Some o) = refl

locals_alike : (ss : List Scheme) (x : Option Operator) → unwrap_or (option_map (λ (o : Operator). o.locals) (option_map (shown_with ss) x)) [] ≡ unwrap_or (option_map (λ (o : Operator). o.locals) x) []
locals_alike ss None = refl
locals_alike ss (Some o) = refl

phylum_alike : (ss : List Scheme) (x : Option Operator) → option_map (λ (o : Operator). o.phylum) (option_map (shown_with ss) x) ≡ option_map (λ (o : Operator). o.phylum) x
phylum_alike ss None = refl
phylum_alike ss (Some o) = refl

pub args_in_view : (spec : Spec) (v op : ℕ) → args_of (in_view spec v).ops op ≡ args_of spec.ops op
args_in_view spec v op = ap (λ x. unwrap_or (option_map (λ (o : Operator). o.args) x) []) (op_in_view spec v op) ∙ args_alike (schemes_in_view spec.views v op) (slice_get spec.ops op)

pub locals_in_view : (spec : Spec) (v op : ℕ) → locals_of (in_view spec v).ops op ≡ locals_of spec.ops op
locals_in_view spec v op = ap (λ x. unwrap_or (option_map (λ (o : Operator). o.locals) x) []) (op_in_view spec v op) ∙ locals_alike (schemes_in_view spec.views v op) (slice_get spec.ops op)

pub phylum_in_view : (spec : Spec) (v op : ℕ) → phylum_of (in_view spec v).ops op ≡ phylum_of spec.ops op
phylum_in_view spec v op = ap (λ x. option_map (λ (o : Operator). o.phylum) x) (op_in_view spec v op) ∙ phylum_alike (schemes_in_view spec.views v op) (slice_get spec.ops op)

pub slot_type_in_view : (spec : Spec) (v op k slot : ℕ) → slot_type (in_view spec v) op k slot ≡ slot_type spec op k slot
slot_type_in_view spec v op zero slot = rw (phylum_in_view spec v op, locals_in_view spec v op) refl
slot_type_in_view spec v op (suc k) slot = rw (args_in_view spec v op) refl

pub is_pair_in_view : (spec : Spec) (v op : ℕ) → is_pair (in_view spec v) op ≡ is_pair spec op
is_pair_in_view spec v op = rw (phylum_in_view spec v op, args_in_view spec v op) refl

pub item_in_view : (spec : Spec) (v op : ℕ) (i : Item) → IsItem spec op i → IsItem (in_view spec v) op i
item_in_view spec v op (Writes ps) h = h
item_in_view spec v op (Child how) h = h
item_in_view spec v op (Shows o) h = rw (slot_type_in_view spec v op o.at o.slot) h
item_in_view spec v op (Separates ps) h = h

pub item_of_view : (spec : Spec) (v op : ℕ) (i : Item) → IsItem (in_view spec v) op i → IsItem spec op i
item_of_view spec v op (Writes ps) h = h
item_of_view spec v op (Child how) h = h
item_of_view spec v op (Shows o) h = rw (sym (slot_type_in_view spec v op o.at o.slot)) h
item_of_view spec v op (Separates ps) h = h

pub scheme_in_view : (spec : Spec) (v op : ℕ) (s : Scheme) → IsScheme spec op s → IsScheme (in_view spec v) op s
scheme_in_view spec v op s h = record {
  places = h.places ∙ ap length (sym (args_in_view spec v op));
  separators = rw (is_pair_in_view spec v op) h.separators;
  shown = λ k d low. item_in_view spec v op _ (h.shown k d low);
}

pub shown_of_view : (spec : Spec) (v p : ℕ) → IsShown (in_view spec v) p → IsShown spec p
shown_of_view spec v _ root = root
shown_of_view spec v _ (argument op q p left up stands) = argument op q p (sym (phylum_in_view spec v op) ∙ left) (shown_of_view spec v q up) (subst (λ ps. Contains ps p) (args_in_view spec v op) stands)

-- what an operator that is seen in a view has, told by the operator that is there
seen : (ss : List Scheme) (x : Option Operator) (o : Operator) → option_map (shown_with ss) x ≡ Some o → (p : Operator) × ((x ≡ Some p) × (shown_with ss p ≡ o))
seen ss None o is = cc is
seen ss (Some p) o is = (p, (refl, cc is))

some_shown : (ordinary ss : List Scheme) → 1 ≤ length ordinary → 1 ≤ length (own_or ordinary ss)
some_shown ordinary [] h = h
some_shown ordinary (s ∷ ss) h = omega arith

all_shown : (P : Scheme → Type 0) (ordinary ss : List Scheme) → All P ordinary → All P ss → All P (own_or ordinary ss)
all_shown P ordinary [] h g = h
all_shown P ordinary (s ∷ ss) h g = g

-- schemes are as sound in each view
pub schemes_in_views : (spec : Spec) (v : ℕ) → HasSchemes spec → HasSchemes (in_view spec v)
schemes_in_views spec v h = record {
  shown = λ op o is up. let (p, (there, same)) = seen (schemes_in_view spec.views v op) (slice_get spec.ops op) o (sym (op_in_view spec v op) ∙ is) in rw (← same) (some_shown p.schemes (schemes_in_view spec.views v op) (h.shown op p there (shown_of_view spec v p.phylum (rw (ap (λ (x : Operator). x.phylum) same) up))));
  schemes = λ op o is. let (p, (there, same)) = seen (schemes_in_view spec.views v op) (slice_get spec.ops op) o (sym (op_in_view spec v op) ∙ is) in rw (← same) (all_shown (IsScheme (in_view spec v) op) p.schemes (schemes_in_view spec.views v op) (there_too op p.schemes (h.schemes op p there)) (there_too op (schemes_in_view spec.views v op) (h.views v op (slice_get_within spec.ops op p there))));
  views = λ w op low. there_too op (schemes_in_view spec.views w op) (h.views w op (subst (λ n. op < n) (count_in_view spec v) low));
}
  where
    there_too : (op : ℕ) (ss : List Scheme) → All (IsScheme spec op) ss → All (IsScheme (in_view spec v) op) ss
    there_too op ss g k d low = scheme_in_view spec v op _ (g k d low)

-- an operator has at most 16 schemes in each view
few_of : (rows : List (List (List Scheme))) (v op : ℕ) → All (λ (row : List (List Scheme)). All (λ (ss : List Scheme). length ss ≤ 16) row) rows → length (unwrap_or (slice_get (unwrap_or (slice_get rows v) []) op) []) ≤ 16
few_of rows v op h = by (slice_get rows v) refl
  where
    within : (row : List (List Scheme)) → All (λ (ss : List Scheme). length ss ≤ 16) row → (x : Option (List Scheme)) → slice_get row op ≡ x → length (unwrap_or x []) ≤ 16
    within row g None is = omega arith
    within row g (Some ss) is = rw (get_or_from_slice_get row op ss [] is) at (g op [] (slice_get_within row op ss is))

    by : (x : Option (List (List Scheme))) → slice_get rows v ≡ x → length (unwrap_or (slice_get (unwrap_or x []) op) []) ≤ 16
    by None is = omega arith
    by (Some row) is = within row (rw (get_or_from_slice_get rows v row [] is) at (h v [] (slice_get_within rows v row is))) (slice_get row op) refl

few_or : (ordinary ss : List Scheme) → length ordinary ≤ 16 → length ss ≤ 16 → length (own_or ordinary ss) ≤ 16
few_or ordinary [] h g = h
few_or ordinary (s ∷ ss) h g = g

pub few_in_views : (spec : Spec) (v : ℕ) → AreCounted spec → All (λ (o : Operator). length o.schemes ≤ 16) (in_view spec v).ops
few_in_views spec v h k d low = by (slice_get spec.ops k) refl (slice_get-get_or (in_view spec v).ops k d low)
  where
    own : (w : ℕ) → length (schemes_in_view spec.views w k) ≤ 16
    own zero = omega arith
    own (suc w) = few_of spec.views.rows w k h.rows

    by : (x : Option Operator) → slice_get spec.ops k ≡ x → slice_get (in_view spec v).ops k ≡ Some (get_or (in_view spec v).ops k d) → length (get_or (in_view spec v).ops k d).schemes ≤ 16
    by None is there = let e = op_in_view spec v k in cc (e, is, there)
    by (Some o) is there = let (p, (same, told)) = seen (schemes_in_view spec.views v k) (slice_get spec.ops k) (get_or (in_view spec v).ops k d) (sym (op_in_view spec v k) ∙ there) in rw (← told) (few_or p.schemes (schemes_in_view spec.views v k) (rw (get_or_from_slice_get spec.ops k p p same) at (h.schemes k p (slice_get_within spec.ops k p same))) (own v))
