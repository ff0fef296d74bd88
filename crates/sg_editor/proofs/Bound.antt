-- How much a command evaluates at most.
use Rattle.std.specs.Prelude.{◌≡◌, refl, ℕ, zero, suc, ◌*◌, ◌^◌, ◌<◌, ◌≤◌, Bool, true, false, is_some, if◌then◌else◌, Result, Ok, Err, IfOk, List, [], ◌∷◌, length, filter, flat_map, All, Contains, get_or, slice_get, Option, Some, None, option_map, unwrap_or, count_by, MatchOption, ⊤}
use Rattle.std.proofs.Common.{sym, ap, subst, arith, length-append}
use Rattle.std.proofs.lemmas.List.{length-map}
use Rattle.std.proofs.lemmas.List.Filters.{length-filter_both}
use Rattle.std.proofs.lemmas.List.Sums.{length-filter}
use Rattle.std.proofs.lemmas.List.Elements.{All-get_or}
use Rattle.std.proofs.lemmas.Option.{get_or_from_slice_get, slice_get_within}
use Rattle.sg_kinds.specs.Terms.{Term, Terms, Leaf, Node, NoTerm, AndTerm, nodes_of, nodes_of_all}
use Rattle.sg_kinds.specs.Places.{Place, places_from, places_among, places_in}
use Rattle.sg_kinds.specs.Nets.{Reference, NodeLabel, Operation, Holding, Missing, net_of, phylum_at}
use Rattle.sg_kinds.specs.Instances.{attr_count, below, instances, references_at, site_of, slots_of}
use Rattle.sg_kinds.specs.Far.{is_far, is_written}
use Rattle.sg_kinds.specs.Sound.{AreCounted, IsSmall, IsSound}
use Rattle.sg_kinds.specs.Specification.{attrs_of, locals_of, rules_of}
use Rattle.sg_kinds.specs.declared.spec.Operator.{Operator}
use Rattle.sg_kinds.specs.declared.spec.Phylum.{Phylum}
use Rattle.sg_kinds.specs.declared.spec.Spec.{Spec}
use Rattle.sg_eval.specs.declared.journal.Instance.{Instance}
use Rattle.sg_forest.specs.declared.node_id.NodeId.{NodeId}
use Rattle.sg_groves.specs.Grove.{Grove}
use Rattle.sg_groves.proofs.InstancesOnce.{instance_has}
use Rattle.sg_outside.specs.Shelf.{ShelfState}
use Rattle.sg_replies.specs.declared.reply.Reply.{Reply}
use Rattle.sg_terms.specs.Entries.{AreEntries, Gained, GainedAll}
use Rattle.sg_script.specs.declared.message.Message.{Message}
use Rattle.sg_buffer.specs.Held.{term_in}
use Rattle.sg_commands.proofs.Counting.{gained_most}
use Rattle.sg_editor.specs.declared.desk.Named.{Named}
use Rattle.sg_editor.specs.Ask.{Ask}
use Rattle.sg_editor.specs.Editing.{Editing, IsKept, current_in, height_in, spec_in}
use Rattle.sg_editor.specs.Steps.{Stepped}
use Rattle.sg_editor.proofs.Stays.{over_current}

module _ {X : Type 0} where
  at_place : (P : X → Type 0) (xs : List X) (k : ℕ) (x : X) → All P xs → slice_get xs k ≡ Some x → P x
  at_place P xs k x all here = subst P (get_or_from_slice_get xs k x x here) (All-get_or P xs k x (slice_get_within xs k x here) all)

  filter_short : (p : X → Bool) (xs : List X) → length (filter p xs) ≤ length xs
  filter_short p [] = omega arith
  filter_short p (x ∷ xs) = by (p x) (filter_short p xs)
    where
      by : (b : Bool) → length (filter p xs) ≤ length xs → length (if b then x ∷ filter p xs else filter p xs) ≤ suc (length xs)
      by true short = omega (arith, short)
      by false short = omega (arith, short)

  flat_short : {Y : Type 0} (f : X → List Y) → ((x : X) → length (f x) ≤ 1048640) → (xs : List X) → length (flat_map f xs) ≤ 1048640 * length xs
  flat_short f few [] = omega arith
  flat_short f few (x ∷ xs) = let e = length-append (f x) (flat_map f xs) in let a = few x in let b = flat_short f few xs in omega (arith, e, a, b)

below_long : (n : ℕ) → length (below n) ≡ n
below_long zero = refl
below_long (suc n) = let e = length-append (below n) (n ∷ []) in let r = below_long n in omega (arith, e, r)

-- a term has as many places as nodes
mutual
  places_long : (u : Place) (t : Term) → length (places_from u t) ≡ nodes_of t
  places_long u (Leaf p v) = refl
  places_long u (Node op scheme elided ts) = ap suc (among_long u 0 ts)

  among_long : (u : Place) (k : ℕ) (ts : Terms) → length (places_among u k ts) ≡ nodes_of_all ts
  among_long u k NoTerm = refl
  among_long u k (AndTerm t ts) =
      let e = length-append (places_from (k ∷ u) t) (places_among u (suc k) ts) in
      let a = places_long (k ∷ u) t in
      let b = among_long u (suc k) ts in
      omega (arith, e, a, b)

module _ (spec : Spec) (counted : AreCounted spec) where
  few_attrs : (p : ℕ) → length (attrs_of spec.phyla p) ≤ 1048608
  few_attrs p = by (slice_get spec.phyla p) refl
    where
      by : (o : Option Phylum) → slice_get spec.phyla p ≡ o → length (unwrap_or (option_map (λ (x : Phylum). x.attrs) o) []) ≤ 1048608
      by None here = omega arith
      by (Some x) here =
          let few = at_place (λ (x : Phylum). (count_by is_written x.attrs ≤ 32) × (count_by is_far x.attrs ≤ 1048576)) spec.phyla p x counted.attrs here in
          omega (arith, few.0, few.1, length-filter_both is_written is_far (λ a. refl) x.attrs, length-filter is_written x.attrs, length-filter is_far x.attrs)

  few_locals : (op : ℕ) → length (locals_of spec.ops op) ≤ 32
  few_locals op = by (slice_get spec.ops op) refl
    where
      by : (o : Option Operator) → slice_get spec.ops op ≡ o → length (unwrap_or (option_map (λ (x : Operator). x.locals) o) []) ≤ 32
      by None here = omega arith
      by (Some x) here = at_place (λ (x : Operator). length x.locals ≤ 32) spec.ops op x counted.locals here

  few_counted : (o : Option ℕ) → attr_count (rules_of spec) o ≤ 1048608
  few_counted None = omega arith
  few_counted (Some p) = few_attrs p

  few_slots : (l : NodeLabel) → slots_of (rules_of spec) l ≤ 1048640
  few_slots (Operation op) = let a = few_counted (phylum_at spec.ops (Operation op)) in let b = few_locals op in omega (arith, a, b)
  few_slots (Holding p v) = let a = few_attrs p in omega (arith, a)
  few_slots Missing = omega arith

  few_references : (t : Term) (u : Place) → length (references_at (rules_of spec) t u) ≤ 1048640
  few_references t u =
      let slots = slots_of (rules_of spec) ((net_of t).label u) in
      let e = length-map {B = Reference Place} (below slots) (λ slot. record { node = u; slot = slot }) in
      let b = below_long slots in
      let f = few_slots ((net_of t).label u) in
      omega (arith, e, b, f)

  few_instances : (t : Term) → IsSmall t → length (instances (rules_of spec) t) ≤ 68723671040
  few_instances t small =
      let a = filter_short (λ a. is_some (site_of (rules_of spec) (net_of t) a)) (flat_map (references_at (rules_of spec) t) (places_in t)) in
      let b = flat_short (references_at (rules_of spec) t) (few_references t) (places_in t) in
      let c = places_long [] t in
      let d = small.0 in
      omega (arith, a, b, c, d)

-- what was gained are instances of the term
module _ (g : Grove) (root : NodeId) (t : Term) (sound : IsSound g.spec) where
  entry_site : (refs : List (Reference Place)) (es : List Instance) → AreEntries g root t refs es → (i : ℕ) (d : Reference Place) → i < length refs
      → Contains (instances (rules_of g.spec) t) (get_or refs i d)
  entry_site [] es are i d low = absurd (omega (arith, low))
  entry_site (a ∷ refs) [] are i d low = absurd are
  entry_site (a ∷ refs) (e ∷ es) are zero d low = instance_has g.spec sound t a are.0.site are.0.found
  entry_site (a ∷ refs) (e ∷ es) are (suc i) d low = entry_site refs es are.1 i d (omega (arith, low))

  gained_few : (IsAmong : Reference Place → Type 0) (now : List Instance) → IsSmall t → Gained g root t IsAmong [] now → length now ≤ 68723671040
  gained_few IsAmong now small gained =
      let among = entry_site gained.refs gained.entries gained.are in
      let most = gained_most g root t (instances (rules_of g.spec) t) [] now refl
      (record { refs = gained.refs; entries = gained.entries; are = gained.are; appended = gained.appended; once = gained.once; among = among }) in
      let few = few_instances g.spec sound.counted t small in
      omega (arith, most, few)

module _ (e : Editing) (sound : IsSound (spec_in e)) (kept : IsKept (spec_in e) (height_in e) e.kept) (small : MatchOption (current_in e.kept) ⊤ (λ b. IsSmall (term_in b.buffer)))
    (asked : Ask) (now : List Instance) (before after : List Reply) (old new : ShelfState) where
  stepped_few : (m : Message) → Stepped asked e m now before after old new → length now ≤ 2 ^ 40
  stepped_few m stepped = by (current_in e.kept) refl small stepped.noted
    where
      by : (o : Option Named) → current_in e.kept ≡ o → MatchOption o ⊤ (λ b. IsSmall (term_in b.buffer))
          → MatchOption o (now ≡ []) (λ b. GainedAll b.buffer.grove b.buffer.root (term_in b.buffer) (Contains stepped.step.set) [] now) → length now ≤ 2 ^ 40
      by None here few none = let none_long : length now ≡ 0 = ap length none in omega (arith, none_long)
      by (Some b) here few all =
          let over = over_current (spec_in e) (height_in e) e.kept kept b here in
          let l = gained_few b.buffer.grove b.buffer.root (term_in b.buffer) (subst IsSound (sym over.spec_is) sound) (Contains stepped.step.set) now few all.gained in
          omega (arith, l)

  pub steps_few : {E : Type 0} (res : Result Message E) → IfOk res (λ m. Stepped asked e m now before after old new) → IfOk res (λ _. length now ≤ 2 ^ 40)
  steps_few (Ok m) stepped = stepped_few m stepped
  steps_few (Err x) stepped = tt
