-- The vertices of an operator stand at their numbers.
use Rattle.std.specs.Prelude.{◌≡◌, ℕ, zero, suc, ◌+◌, ◌-◌, ◌≤◌, List, [], ◌∷◌, ◌++◌, map, take, length, nat_eq, count_by, Option, Some, None, slice_get, option_map, unwrap_or}
use Rattle.std.proofs.Common.{refl, sym, ap, ◌∙◌, subst, get_or, arith}
use Rattle.std.proofs.lemmas.List.{append-nil, append_assoc, length-append, length-map, get_or_append_left, get_or-append_right}
use Rattle.std.proofs.lemmas.Option.{none-some, same_Some, slice_get-map, slice_get_within, get_or_from_slice_get}
use Rattle.sg_kinds.specs.Specification.{attrs_of, args_of, rules_of, phylum_name}
use Rattle.sg_kinds.specs.declared.spec.Attr.{Attr}
use Rattle.sg_kinds.specs.declared.spec.Phylum.{Phylum}
use Rattle.sg_kinds.specs.declared.spec.Operator.{Operator}
use Rattle.sg_kinds.specs.declared.spec.Spec.{Spec}
use Rattle.sg_kinds.specs.declared.spec.Local.{Local as LocalOf}
use Rattle.sg_kinds.specs.declared.fault.PrintedVertex.{PrintedVertex}
use Rattle.sg_kinds.specs.declared.fault.PrintedVertex.TheVariants.{Own, Argument, Local}
use Rattle.sg_kinds.specs.Instances.{attr_count}
use Rattle.sg_kinds.specs.Dependencies.{phylum_there, occurrence}
use Rattle.sg_kinds.specs.Visits.{attrs_before, attrs_here, vertex}
use Rattle.sg_dependencies.proofs.Framed.{args_are, phylum_is}
use Rattle.sg_dependencies.proofs.Numbers.{number_attr, number_local}
use Rattle.sg_reports.specs.Vertices.{occurrence_vertices, argument_vertices, vertices_of, printed_vertices, vertex_in}

-- what stands in a list stands in its picture
pub mapped_there : {A B : Type 0} (f : A → B) (xs : List A) (k : ℕ) (x : A) (d : B) → slice_get xs k ≡ Some x → get_or (map f xs) k d ≡ f x
mapped_there f xs k x d is = get_or_from_slice_get (map f xs) k (f x) d (slice_get-map f xs k ∙ ap (option_map f) is)

module _ (phyla : List Phylum) where
  -- how many attributes so many of the arguments have
  abbrev counted : List ℕ → ℕ → ℕ
  counted qs zero = 0
  counted [] (suc k) = 0
  counted (q ∷ qs) (suc k) = length (attrs_of phyla q) + counted qs k

  abbrev count_at : Option ℕ → ℕ
  count_at None = 0
  count_at (Some q) = length (attrs_of phyla q)

  counted-suc : (qs : List ℕ) (k : ℕ) → counted qs (suc k) ≡ counted qs k + count_at (slice_get qs k)
  counted-suc [] zero = refl
  counted-suc [] (suc k) = refl
  counted-suc (q ∷ qs) zero = omega arith
  counted-suc (q ∷ qs) (suc k) = let rest = counted-suc qs k in omega (arith, rest)

  occurrence_there : (q n slot : ℕ) (a : Attr) (d : PrintedVertex) → slice_get (attrs_of phyla q) slot ≡ Some a → get_or (occurrence_vertices phyla q n) slot d ≡ Argument (phylum_name phyla q) n a.name
  occurrence_there q n slot a d is = mapped_there (λ (x : Attr). Argument (phylum_name phyla q) n x.name) (attrs_of phyla q) slot a d is

  occurrence_length : (q n : ℕ) → length (occurrence_vertices phyla q n) ≡ length (attrs_of phyla q)
  occurrence_length q n = length-map (attrs_of phyla q) (λ (x : Attr). Argument (phylum_name phyla q) n x.name)

  arguments_length : (before qs : List ℕ) → length (argument_vertices phyla before qs) ≡ counted qs (length qs)
  arguments_length before [] = refl
  arguments_length before (q ∷ qs) =
      let n = suc (count_by (nat_eq q) before) in
      length-append (occurrence_vertices phyla q n) (argument_vertices phyla (before ++ q ∷ []) qs)
      ∙ ap (λ m. m + length (argument_vertices phyla (before ++ q ∷ []) qs)) (occurrence_length q n)
      ∙ ap (λ m. length (attrs_of phyla q) + m) (arguments_length (before ++ q ∷ []) qs)

  -- the number of an argument's occurrence: how many of its phylum stand before it, and one
  abbrev pub number_of : List ℕ → List ℕ → ℕ → ℕ → ℕ
  number_of before qs k q = suc (count_by (nat_eq q) (before ++ take k qs))

  argument_here : (before qs : List ℕ) (p q slot : ℕ) (a : Attr) (d : PrintedVertex) → p ≡ q → slice_get (attrs_of phyla q) slot ≡ Some a
      → get_or (argument_vertices phyla before (p ∷ qs)) slot d ≡ Argument (phylum_name phyla q) (suc (count_by (nat_eq q) before)) a.name
  argument_here before qs p q slot a d same is =
      let n = suc (count_by (nat_eq p) before) in
      let there : slice_get (attrs_of phyla p) slot ≡ Some a = subst (λ z. slice_get (attrs_of phyla z) slot ≡ Some a) (sym same) is in
      let low = slice_get_within (attrs_of phyla p) slot a there in
      let long = occurrence_length p n in
      get_or_append_left (occurrence_vertices phyla p n) (argument_vertices phyla (before ++ p ∷ []) qs) d slot (omega (arith, low, long))
      ∙ occurrence_there p n slot a d there
      ∙ ap (λ z. Argument (phylum_name phyla z) (suc (count_by (nat_eq z) before)) a.name) same

  argument_there : (before qs : List ℕ) (k q slot : ℕ) (a : Attr) (d : PrintedVertex) → slice_get qs k ≡ Some q → slice_get (attrs_of phyla q) slot ≡ Some a
      → get_or (argument_vertices phyla before qs) (counted qs k + slot) d ≡ Argument (phylum_name phyla q) (number_of before qs k q) a.name
  argument_there before [] k q slot a d at is = absurd (none-some q at)
  argument_there before (p ∷ qs) zero q slot a d at is =
      let start : 0 + slot ≡ slot = omega arith in
      ap (λ m. get_or (argument_vertices phyla before (p ∷ qs)) m d) start
      ∙ argument_here before qs p q slot a d (same_Some p q at) is
      ∙ ap (λ xs. Argument (phylum_name phyla q) (suc (count_by (nat_eq q) xs)) a.name) (sym (append-nil before))
  argument_there before (p ∷ qs) (suc k) q slot a d at is =
      let n = suc (count_by (nat_eq p) before) in
      let behind = before ++ p ∷ [] in
      let place = length (attrs_of phyla p) + counted qs k + slot in
      let rest : place - length (attrs_of phyla p) ≡ counted qs k + slot = omega arith in
      get_or-append_right (occurrence_vertices phyla p n) (argument_vertices phyla behind qs) (length (attrs_of phyla p)) place d (occurrence_length p n) (omega arith)
      ∙ ap (λ m. get_or (argument_vertices phyla behind qs) m d) rest
      ∙ argument_there behind qs k q slot a d at is
      ∙ ap (λ xs. Argument (phylum_name phyla q) (suc (count_by (nat_eq q) xs)) a.name) (append_assoc before (p ∷ []) (take k qs))

module _ (spec : Spec) (p : ℕ) (o : Operator) (is : slice_get spec.ops p ≡ Some o) where
  abbrev own : List PrintedVertex
  own = map (λ (a : Attr). Own a.name) (attrs_of spec.phyla o.phylum)

  abbrev arguments : List PrintedVertex
  arguments = argument_vertices spec.phyla (o.phylum ∷ []) o.args

  abbrev locals : List PrintedVertex
  locals = map (λ (l : LocalOf). Local l.name) o.locals

  own_length : length own ≡ length (attrs_of spec.phyla o.phylum)
  own_length = length-map (attrs_of spec.phyla o.phylum) (λ (a : Attr). Own a.name)

  vertices_are : printed_vertices spec p ≡ own ++ arguments ++ locals
  vertices_are = ap (λ x. unwrap_or (option_map (vertices_of spec.phyla) x) []) is

  args_same : args_of spec.ops p ≡ o.args
  args_same = args_are (rules_of spec) p o is

  before_arguments : (k : ℕ) → attrs_before (rules_of spec) p (suc k) ≡ length (attrs_of spec.phyla o.phylum) + counted spec.phyla o.args k
  before_arguments zero = let left : attr_count (rules_of spec) (phylum_there spec.ops p 0) ≡ length (attrs_of spec.phyla o.phylum) = ap (attr_count (rules_of spec)) (phylum_is (rules_of spec) p o is) in omega (arith, left)
  before_arguments (suc k) =
      let rest = before_arguments k in
      let next = counted-suc spec.phyla o.args k in
      let here : attr_count (rules_of spec) (phylum_there spec.ops p (suc k)) ≡ count_at spec.phyla (slice_get o.args k) = ap (λ xs. attr_count (rules_of spec) (slice_get xs k)) args_same ∙ same_count (slice_get o.args k) in
      omega (arith, rest, next, here)
    where
      same_count : (x : Option ℕ) → attr_count (rules_of spec) x ≡ count_at spec.phyla x
      same_count None = refl
      same_count (Some q) = refl

  left_count : attr_count (rules_of spec) (phylum_there spec.ops p 0) ≡ length (attrs_of spec.phyla o.phylum)
  left_count = ap (attr_count (rules_of spec)) (phylum_is (rules_of spec) p o is)

  pub own_vertex : (slot : ℕ) (a : Attr) → slice_get (attrs_of spec.phyla o.phylum) slot ≡ Some a → vertex_in (printed_vertices spec p) (vertex (rules_of spec) p (occurrence 0 slot)) ≡ Own a.name
  own_vertex slot a at =
      let low = slice_get_within (attrs_of spec.phyla o.phylum) slot a at in
      let left = left_count in
      let long = own_length in
      let both = length-append own arguments in
      let number : vertex (rules_of spec) p (occurrence 0 slot) ≡ slot = let n = number_attr (rules_of spec) p 0 slot (omega (arith, low, left)) in omega (arith, n) in
      ap (λ m. vertex_in (printed_vertices spec p) m) number
      ∙ ap (λ vs. vertex_in vs slot) vertices_are
      ∙ get_or_append_left (own ++ arguments) locals (Local []) slot (omega (arith, low, long, both))
      ∙ get_or_append_left own arguments (Local []) slot (omega (arith, low, long))
      ∙ mapped_there (λ (x : Attr). Own x.name) (attrs_of spec.phyla o.phylum) slot a (Local []) at

  pub argument_vertex : (k q slot : ℕ) (a : Attr) → slice_get o.args k ≡ Some q → slice_get (attrs_of spec.phyla q) slot ≡ Some a
      → vertex_in (printed_vertices spec p) (vertex (rules_of spec) p (occurrence (suc k) slot)) ≡ Argument (phylum_name spec.phyla q) (suc (count_by (nat_eq q) (o.phylum ∷ take k o.args))) a.name
  argument_vertex k q slot a at there =
      let low = slice_get_within (attrs_of spec.phyla q) slot a there in
      let inside = slice_get_within o.args k q at in
      let count : attr_count (rules_of spec) (phylum_there spec.ops p (suc k)) ≡ length (attrs_of spec.phyla q) = ap (attr_count (rules_of spec)) (ap (λ xs. slice_get xs k) args_same ∙ at) in
      let place = length (attrs_of spec.phyla o.phylum) + counted spec.phyla o.args k + slot in
      let number : vertex (rules_of spec) p (occurrence (suc k) slot) ≡ place = let n = number_attr (rules_of spec) p (suc k) slot (omega (arith, low, count)) in let b = before_arguments k in omega (arith, n, b) in
      let long = own_length in
      let both = length-append own arguments in
      let within = counted_within o.args k q at in
      let all = arguments_length spec.phyla (o.phylum ∷ []) o.args in
      let rest : place - length (attrs_of spec.phyla o.phylum) ≡ counted spec.phyla o.args k + slot = omega arith in
      ap (λ m. vertex_in (printed_vertices spec p) m) number
      ∙ ap (λ vs. vertex_in vs place) vertices_are
      ∙ get_or_append_left (own ++ arguments) locals (Local []) place (omega (arith, low, long, both, within, all))
      ∙ get_or-append_right own arguments (length (attrs_of spec.phyla o.phylum)) place (Local []) long (omega arith)
      ∙ ap (λ m. get_or arguments m (Local [])) rest
      ∙ argument_there spec.phyla (o.phylum ∷ []) o.args k q slot a (Local []) at there
    where
      counted_within : (qs : List ℕ) (j r : ℕ) → slice_get qs j ≡ Some r → counted spec.phyla qs j + length (attrs_of spec.phyla r) ≤ counted spec.phyla qs (length qs)
      counted_within [] j r e = absurd (none-some r e)
      counted_within (s ∷ qs) zero r e = let same = ap (λ z. length (attrs_of spec.phyla z)) (same_Some s r e) in omega (arith, same)
      counted_within (s ∷ qs) (suc j) r e = let h = counted_within qs j r e in omega (arith, h)

  pub local_vertex : (slot : ℕ) (l : LocalOf) → slice_get o.locals slot ≡ Some l → vertex_in (printed_vertices spec p) (vertex (rules_of spec) p (occurrence 0 (length (attrs_of spec.phyla o.phylum) + slot))) ≡ Local l.name
  local_vertex slot l at =
      let left = left_count in
      let count = length (attrs_of spec.phyla o.phylum) in
      let place = count + counted spec.phyla o.args (length o.args) + slot in
      let here : attrs_here (rules_of spec) p ≡ count = omega (arith, left) in
      let number : vertex (rules_of spec) p (occurrence 0 (count + slot)) ≡ place =
      let n = number_local (rules_of spec) p (count + slot) (omega (arith, here)) in
      let args = ap (λ xs. attrs_before (rules_of spec) p (suc (length xs))) args_same in
      let b = before_arguments (length o.args) in
      omega (arith, n, args, b, here) in
      let long = own_length in
      let both = length-append own arguments in
      let all = arguments_length spec.phyla (o.phylum ∷ []) o.args in
      let first : length (own ++ arguments) ≡ count + counted spec.phyla o.args (length o.args) = omega (arith, long, both, all) in
      let rest : place - (count + counted spec.phyla o.args (length o.args)) ≡ slot = omega arith in
      ap (λ m. vertex_in (printed_vertices spec p) m) number
      ∙ ap (λ vs. vertex_in vs place) vertices_are
      ∙ get_or-append_right (own ++ arguments) locals (count + counted spec.phyla o.args (length o.args)) place (Local []) first (omega arith)
      ∙ ap (λ m. get_or locals m (Local [])) rest
      ∙ mapped_there (λ (x : LocalOf). Local x.name) o.locals slot l (Local []) at
