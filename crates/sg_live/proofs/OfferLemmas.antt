-- The names of transformations, one after another
use Rattle.std.proofs.Common.{◌≡◌, ◌<◌, ◌≤◌, ◌+◌, ℕ, List, [], ◌∷◌, ◌++◌, Bool, true, false, cond, ◌&&◌, ◌||◌, if◌then◌else◌, length, take, map, get_or, refl, sym, ap, subst, ◌∙◌, append-nil, take_all, eq-eqb, Result, Ok, Err, IfOk}
use Rattle.std.specs.Prelude.{bytes_eq, filter, fold, is_some, not, nat_eq, Option, Some, None, MatchOption}
use Rattle.std.specs.Option.{option_map}
use Rattle.std.specs.Borrow.{Bor}
use Rattle.std.specs.List.{list_any}
use Rattle.std.proofs.lemmas.List.{take_more, map-append}
use Rattle.std.proofs.lemmas.List.Elements.{filter-append}
use Rattle.std.proofs.lemmas.List.Sums.{fold-append}
use Rattle.sg_kinds.specs.Fits.{Fits}
use Rattle.sg_kinds.specs.Terms.{Term}
use Rattle.sg_kinds.specs.ValueOf.{value_of}
use Rattle.sg_kinds.specs.Values.{Bytes, Value}
use Rattle.sg_kinds.specs.declared.spec.Spec.{Spec}
use Rattle.sg_kinds.specs.declared.spec.Transform.{Transform}
use Rattle.sg_forest.specs.declared.node_id.NodeId.{NodeId}
use Rattle.sg_forest.specs.Trees.{Climbs}
use Rattle.sg_groves.specs.Grove.{Grove, IsGrove, nodes}
use Rattle.sg_groves.specs.Holds.{Holds}
use Rattle.sg_groves.proofs.Held.{held_fits}
use Rattle.sg_changes.specs.Captured.{Captured}
use Rattle.sg_states.specs.States.{State, selected_place}
use Rattle.sg_buffer.specs.Buffers.{StandsFor}
use Rattle.sg_buffer.specs.Held.{Held, state_of}
use Rattle.sg_edits.specs.Edits.{phylum_in}
use Rattle.sg_edits.proofs.Placed.{fits_phylum}
use Rattle.sg_commands.proofs.Choosing.{live_here, selected_held}
use Rattle.sg_commands.specs.Turns.{selected_term}
use Rattle.sg_live.specs.Offers.{with_name, each_once, names_of, names_for, names_at, offered_in, applies_to}

any_named : (names : List (Bor (List ℕ))) (name : Bytes) → list_any (bytes_eq name) (names_of names) ≡ list_any (λ (o : Bor (List ℕ)). bytes_eq name o.now) names
any_named [] name = refl
any_named (x ∷ xs) name = ap (λ b. bytes_eq name x.now || b) (any_named xs name)

pub name_there : (names : List (Bor (List ℕ))) (name : Bytes) → list_any (λ (o : Bor (List ℕ)). bytes_eq name o.now) names ≡ true → names_of names ≡ with_name (names_of names) name
name_there names name is = sym (ap (λ b. if b then names_of names else names_of names ++ name ∷ []) (any_named names name ∙ is))

pub name_new : (names all : List (Bor (List ℕ))) (name : Bor (List ℕ)) → list_any (λ (o : Bor (List ℕ)). bytes_eq name.now o.now) names ≡ false → all ≡ names ++ name ∷ []
    → names_of all ≡ with_name (names_of names) name.now
name_new names all name is more =
    ap names_of more ∙ map-append (λ (n : Bor (List ℕ)). n.now) names (name ∷ []) ∙ sym (ap (λ b. if b then names_of names else names_of names ++ name.now ∷ []) (any_named names name.now ∙ is))

pub misses : (a b : Bool) → b ≡ false → (a && b) ≡ false
misses true b e = e
misses false b e = refl

pub misses_first : (a b : Bool) → a ≡ false → (a && b) ≡ false
misses_first true b e = absurd (cc)
misses_first false b e = refl

pub hits : (a b : Bool) → a ≡ true → b ≡ true → (a && b) ≡ true
hits true b e f = f
hits false b e f = absurd (cc)

-- the names of those among them that apply
abbrev name_in : Transform → Bytes
name_in x = x.name

abbrev once_of : (Transform → Bool) → List Transform → List Bytes
once_of f xs = each_once (map name_in (filter f xs))

once_by : (b : Bool) (zs : List Transform) (x : Transform) → each_once (map name_in (zs ++ cond b (x ∷ []) [])) ≡ (if b then with_name (each_once (map name_in zs)) x.name else each_once (map name_in zs))
once_by true zs x = ap each_once (map-append name_in zs (x ∷ [])) ∙ fold-append with_name [] (map name_in zs) (x.name ∷ [])
once_by false zs x = ap (λ (l : List Transform). each_once (map name_in l)) (append-nil zs)

once_push : (f : Transform → Bool) (ys : List Transform) (x : Transform) → once_of f (ys ++ x ∷ []) ≡ (if f x then with_name (once_of f ys) x.name else once_of f ys)
once_push f ys x = ap (λ (l : List Transform). each_once (map name_in l)) (filter-append f ys (x ∷ [])) ∙ once_by (f x) (filter f ys) x

once_more : (f : Transform → Bool) (xs : List Transform) (k : ℕ) (x : Transform) → k < length xs → x ≡ get_or xs k x
    → once_of f (take (k + 1) xs) ≡ (if f x then with_name (once_of f (take k xs)) x.name else once_of f (take k xs))
once_more f xs k x low is =
    ap (once_of f) (take_more xs k x low) ∙ ap (λ (y : Transform). once_of f (take k xs ++ y ∷ [])) (sym is) ∙ once_push f (take k xs) x

pub names_stay : (f : Transform → Bool) (xs : List Transform) (k : ℕ) (x : Transform) (names : List Bytes) → k < length xs → x ≡ get_or xs k x → f x ≡ false
    → names ≡ once_of f (take k xs) → names ≡ once_of f (take (k + 1) xs)
names_stay f xs k x names low is other so_far =
    so_far ∙ sym (once_more f xs k x low is ∙ ap (λ b. if b then with_name (once_of f (take k xs)) x.name else once_of f (take k xs)) other)

pub names_grow : (f : Transform → Bool) (xs : List Transform) (k : ℕ) (x : Transform) (names all : List Bytes) → k < length xs → x ≡ get_or xs k x → f x ≡ true
    → names ≡ once_of f (take k xs) → all ≡ with_name names x.name → all ≡ once_of f (take (k + 1) xs)
names_grow f xs k x names all low is fits so_far more =
    more ∙ ap (λ l. with_name l x.name) so_far ∙ sym (once_more f xs k x low is ∙ ap (λ b. if b then with_name (once_of f (take k xs)) x.name else once_of f (take k xs)) fits)

pub names_whole : (spec : Spec) (p : ℕ) (v : Value) (k : ℕ) (names : List Bytes) → length spec.transforms ≤ k → names ≡ once_of (applies_to spec p v) (take k spec.transforms) → names ≡ names_for spec p v
names_whole spec p v k names all so_far = so_far ∙ ap (once_of (applies_to spec p v)) (take_all k spec.transforms all)

-- where no text is typed and one node is selected
offered_one : (spec : Spec) (st : State) → is_some st.capture ≡ false → nat_eq st.spot.selection.count 1 ≡ true → offered_in spec st ≡ names_at spec (selected_term st)
offered_one spec st whole one =
    ap (λ b. if b || not (nat_eq st.spot.selection.count 1) then [] else names_at spec (selected_term st)) whole ∙ ap (λ b. if not b then [] else names_at spec (selected_term st)) one

-- what a buffer tells of its text that is typed
pub captured_is : (r : Option (Bor (List ℕ))) (k : Option Captured) → MatchOption r (k ≡ None) (λ s. option_map (λ (x : Captured). x.text) k ≡ Some s.now) → is_some k ≡ is_some r
captured_is None None e = refl
captured_is None (Some k) e = absurd (cc)
captured_is (Some s) None e = absurd (cc)
captured_is (Some s) (Some k) e = refl

if_ok_to : {T E : Type 0} {P Q : T → Type 0} (r : Result T E) → ((x : T) → P x → Q x) → IfOk r P → IfOk r Q
if_ok_to (Ok x) f p = f x p
if_ok_to (Err e) f p = tt

-- at the selected node of a buffer
module _ (b : Held) (stands : StandsFor b (state_of b)) (g : Grove) (same : g ≡ b.grove) (n : NodeId) (way : Climbs (nodes b.grove) (selected_place (state_of b)) n b.root) where
  phylum_is : (t : Term) (p : ℕ) → Fits g.spec t p → names_for g.spec p (value_of t) ≡ names_at b.grove.spec t
  phylum_is t p fits =
      ap (λ (q : ℕ). names_for g.spec q (value_of t)) (sym (fits_phylum g.spec t p fits)) ∙ ap (λ (h : Grove). names_for h.spec (phylum_in h.spec t) (value_of t)) same

  fits_there : Fits g.spec (selected_term (state_of b)) (live_here b stands g same n way).node.label.phylum
  fits_there =
      held_fits g (subst IsGrove (sym same) stands.grove) n (live_here b stands g same n way).node (selected_term (state_of b)) (live_here b stands g same n way).found (selected_held b stands g same n way)

  pub names_here : {T E : Type 0} (r : Result T E) (view : T → List Bytes)
      → ((p : ℕ) (t : Term) → Holds g n t → Fits g.spec t p → IfOk r (λ x. view x ≡ names_for g.spec p (value_of t)))
      → is_some (state_of b).capture ≡ false → (state_of b).spot.selection.count ≡ 1 → IfOk r (λ x. view x ≡ offered_in b.grove.spec (state_of b))
  names_here r view told whole one =
      let t = selected_term (state_of b) in
      let p = (live_here b stands g same n way).node.label.phylum in
      let shown : names_for g.spec p (value_of t) ≡ offered_in b.grove.spec (state_of b) =
      phylum_is t p fits_there ∙ sym (offered_one b.grove.spec (state_of b) whole (eq-eqb (state_of b).spot.selection.count 1 one)) in
      if_ok_to r (λ x is. is ∙ shown) (told p t (selected_held b stands g same n way) fits_there)
