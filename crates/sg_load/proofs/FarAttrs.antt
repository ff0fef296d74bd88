-- The far attributes of the longer table: which they are, and what hands them down.
use Rattle.std.proofs.Common.{◌≡◌, ◌≢◌, ℕ, zero, suc, ◌+◌, ◌<◌, Bool, true, false, cond, not, nat_eq, List, [], ◌∷◌, ◌++◌, length, map, Option, Some, None, option_map, unwrap_or, slice_get, refl, sym, ap, subst, ◌∙◌, arith}
use Rattle.std.specs.Prelude.{◌&&◌, option_and_then, find, if◌then◌else◌}
use Rattle.std.specs.List.{AllByRecursion as Each, All, Contains, filter}
use Rattle.std.proofs.lemmas.Bool.{and_from}
use Rattle.std.proofs.lemmas.List.Elements.{All-from_recursion, All-contains}
use Rattle.std.proofs.lemmas.Option.{slice_get-map, slice_get_within}
use Rattle.sg_kinds.specs.Far.{is_far, is_written, same_far, listed_slot, slot_of_far, source_slot, IsListed}
use Rattle.sg_kinds.specs.Specification.{args_of, attrs_of, locals_of, phylum_of, has_shape, is_leaf_shape}
use Rattle.sg_kinds.specs.Typing.{attr_types, slot_type}
use Rattle.sg_kinds.specs.declared.spec.Attr.{Attr}
use Rattle.sg_kinds.specs.declared.spec.Far.{Far}
use Rattle.sg_kinds.specs.declared.spec.Local.{Local}
use Rattle.sg_kinds.specs.declared.spec.Operator.{Operator}
use Rattle.sg_kinds.specs.declared.spec.Phylum.{Phylum}
use Rattle.sg_kinds.specs.declared.spec.Spec.{Spec}
use Rattle.sg_kinds.proofs.Elementary.{eq_is, eq_itself, eq_false, slice_get-before, slice_get-behind}
use Rattle.sg_ast.specs.Declarations.{Decl}
use Rattle.sg_names.specs.Drafted.{drafted}
use Rattle.sg_names.specs.More.{with_more}
use Rattle.sg_names.specs.Names as written
use Rattle.sg_names.specs.declared.table.Table.{Table}
use Rattle.sg_names.proofs.FarLaws.{not_far, written_there}
use Rattle.sg_typing.proofs.TableFacts.{position_there}
use Rattle.sg_equations.specs.Handed.{HasSource, AreHandedDown}
use Rattle.sg_remote.specs.Atoms.{atoms}
use Rattle.sg_remote.specs.Bearing.{passes, bears, borne}
use Rattle.sg_remote.specs.Handing.{source}
use Rattle.sg_remote.specs.Lists.{lists_of}
use Rattle.sg_remote.specs.Longer.{far_attr, far_type, more, names_of}
use Rattle.sg_remote.specs.Reach.{flag}
use Rattle.sg_remote.specs.declared.atoms.Atom.{Atom}
use Rattle.sg_remote.proofs.Borne.{bears_only, bears_all}
use Rattle.sg_remote.proofs.Knowing.{same_list}
use Rattle.sg_remote.proofs.Members.{at_place, in_map, from_map, place_of, later}
use Rattle.sg_load.proofs.FarAtoms.{lists_each}
use Rattle.sg_load.proofs.FarLists.{IsLegal, IsOfType, attr_more}
use Rattle.sg_load.proofs.LongerLists.{Part, first, second, part_of, passes_at}
use Rattle.sg_load.proofs.LongerNames.{if_there, attrs_are, shape_same}

-- the table of the written names, the far attributes of its phyla, and both
abbrev pub short : List Decl → Table
short ds = written.names_of ds

abbrev pub far_attrs : List Decl → ℕ → List Attr
far_attrs ds = more (short ds) (atoms (short ds) ds) (lists_of (atoms (short ds) ds))

abbrev pub long : List Decl → Table
long ds = with_more (short ds) (far_attrs ds)

pub long_is : (ds : List Decl) → names_of ds ≡ long ds
unfolding names_of
long_is ds = refl

-- elements that pass a test
pub in_filter : {A : Type 0} (p : A → Bool) (xs : List A) (x : A) → Contains xs x → p x ≡ true → Contains (filter p xs) x
in_filter p [] x c test = absurd (let low = c.1 in omega (arith, low))
in_filter {A} p (y ∷ xs) x c test = by (p y) refl c (in_filter p xs x)
  where
    by : (b : Bool) → p y ≡ b → Contains (y ∷ xs) x → (Contains xs x → p x ≡ true → Contains (filter p xs) x) → Contains (cond b (y ∷ filter p xs) (filter p xs)) x
    by true is (zero, low, same) rest = (0, omega arith, same)
    by true is (suc k, low, same) rest = later y (filter p xs) x (rest (k, omega (arith, low), same) test)
    by false is (zero, low, same) rest = absurd (cc (sym is ∙ ap p same ∙ test))
    by false is (suc k, low, same) rest = rest (k, omega (arith, low), same) test

pub from_filter : {A : Type 0} (p : A → Bool) (xs : List A) (x : A) → Contains (filter p xs) x → Contains xs x × (p x ≡ true)
from_filter p [] x c = absurd (let low = c.1 in omega (arith, low))
from_filter {A} p (y ∷ xs) x c = by (p y) refl c (from_filter p xs x)
  where
    by : (b : Bool) → p y ≡ b → Contains (cond b (y ∷ filter p xs) (filter p xs)) x → (Contains (filter p xs) x → Contains xs x × (p x ≡ true)) → Contains (y ∷ xs) x × (p x ≡ true)
    by true is (zero, low, same) rest = ((0, omega arith, same), ap p (sym same) ∙ is)
    by true is (suc k, low, same) rest = let r = rest (k, omega (arith, low), same) in (later y xs x r.0, r.1)
    by false is c rest = let r = rest c in (later y xs x r.0, r.1)

-- a list is the same as itself
same_itself : (fs : List Far) → same_far fs fs ≡ true
same_itself [] = refl
same_itself (f ∷ fs) =
    and_from (nat_eq f.phylum f.phylum && nat_eq f.slot f.slot) (same_far fs fs) (and_from (nat_eq f.phylum f.phylum) (nat_eq f.slot f.slot) (eq_itself f.phylum) (eq_itself f.slot)) (same_itself fs)

-- a list that is not empty makes a far attribute
some_far : (fs : List Far) → fs ≢ [] → not (nat_eq (length fs) 0) ≡ true
some_far [] some = absurd (some refl)
some_far (f ∷ fs) some = ap not (eq_false (length (f ∷ fs)) 0 (λ e. omega (arith, e)))

-- the attribute of a phylum that a list names
listed_there : (t : Table) (of : ℕ) (fs : List Far) (p s : ℕ) → Each (IsOfType t of) fs → listed_slot fs p ≡ Some s → (a : Attr) × (slice_get (attrs_of t.phyla p) s ≡ Some a) × (a.of ≡ of)
listed_there t of [] p s all e = absurd (cc e)
listed_there t of (f ∷ fs) p s all e = by (nat_eq f.phylum p) refl e (listed_there t of fs p s all.1)
  where
    by : (b : Bool) → nat_eq f.phylum p ≡ b → option_map (λ (g : Far). g.slot) (cond b (Some f) (find (λ (g : Far). nat_eq g.phylum p) fs)) ≡ Some s
        → (listed_slot fs p ≡ Some s → (a : Attr) × (slice_get (attrs_of t.phyla p) s ≡ Some a) × (a.of ≡ of)) → (a : Attr) × (slice_get (attrs_of t.phyla p) s ≡ Some a) × (a.of ≡ of)
    by true is e rest =
        let x = all.0 in
        let slot : f.slot ≡ s = cc e in
        (x.attr, (λ i. slice_get (attrs_of t.phyla (sym (eq_is f.phylum p is) i)) (sym slot i)) ∙ x.there, x.type)
    by false is e rest = rest e

abbrev or_far : Option ℕ → Option ℕ → Option ℕ
or_far o other = elim o [ Some s ↦ Some s | None ↦ other ]

-- a far attribute of a phylum
pub record IsBorne (ds : List Decl) (p : ℕ) (a : Attr) : Type 0 where
  pub list : List Far
  pub is : far_attr (short ds) list ≡ a
  pub legal : IsLegal (short ds) list
  pub among : Contains (lists_of (atoms (short ds) ds)) list
  pub up : bears (short ds) ds list p ≡ true

module _ (ds : List Decl) (legal : Each (λ (a : Atom). IsLegal (short ds) a.list) (atoms (short ds) ds)) where
  from_far : (p : ℕ) (a : Attr) → Contains (far_attrs ds p) a → IsBorne ds p a
  from_far p a c =
      let lists = lists_of (atoms (short ds) ds) in
      let test = λ (fs : List Far). flag (borne (short ds) (atoms (short ds) ds) fs) p in
      let m = from_map (far_attr (short ds)) (filter test lists) a c in
      let f = from_filter test lists m.0 m.1 in
      record {
        list = m.0;
        is = m.2;
        legal = All-contains (IsLegal (short ds)) lists m.0 (All-from_recursion (IsLegal (short ds)) lists (lists_each (IsLegal (short ds)) (atoms (short ds) ds) legal)) f.0;
        among = f.0;
        up = f.1;
      }

  pub far_there : (p s : ℕ) (a : Attr) → slice_get (far_attrs ds p) s ≡ Some a → IsBorne ds p a
  far_there p s a at = from_far p a (at_place (far_attrs ds p) s a at)

  -- in the longer table
  there_far : (p s : ℕ) (a : Attr) → slice_get (if_there (slice_get (short ds).phyla p) (far_attrs ds p)) s ≡ Some a → IsBorne ds p a
  there_far p s a at = by (slice_get (short ds).phyla p) at
    where
      by : (o : Option Phylum) → slice_get (if_there o (far_attrs ds p)) s ≡ Some a → IsBorne ds p a
      by None at = absurd (cc at)
      by (Some x) at = far_there p s a at

  parts : (p s : ℕ) (a : Attr) → slice_get (attrs_of (long ds).phyla p) s ≡ Some a → Part (attrs_of (short ds).phyla p) (if_there (slice_get (short ds).phyla p) (far_attrs ds p)) s a
  parts p s a at = part_of (attrs_of (short ds).phyla p) (if_there (slice_get (short ds).phyla p) (far_attrs ds p)) s a (ap (λ (l : List Attr). slice_get l s) (sym (attrs_are (short ds) (far_attrs ds) p)) ∙ at)

  plain : (p s : ℕ) (a : Attr) → slice_get (attrs_of (short ds).phyla p) s ≡ Some a → is_far a ≡ false
  plain p s a at = not_far (attrs_of (short ds).phyla p) (written_there ds p) s a at

  pub far_borne : (p s : ℕ) (a : Attr) → slice_get (attrs_of (long ds).phyla p) s ≡ Some a → is_far a ≡ true → IsBorne ds p a
  far_borne p s a at far = by (parts p s a at)
    where
      by : Part (attrs_of (short ds).phyla p) (if_there (slice_get (short ds).phyla p) (far_attrs ds p)) s a → IsBorne ds p a
      by (first at) = absurd (cc (sym far ∙ plain p s a at))
      by (second j is at) = there_far p j a at

  pub borne_far : (p : ℕ) (a : Attr) → IsBorne ds p a → is_far a ≡ true
  borne_far p a x = ap is_far (sym x.is) ∙ some_far x.list x.legal.some

  -- they stand behind the written ones
  pub stands_last : (p i j : ℕ) (a b : Attr) → i < j → slice_get (attrs_of (long ds).phyla p) i ≡ Some a → slice_get (attrs_of (long ds).phyla p) j ≡ Some b → is_far a ≡ true → is_far b ≡ true
  stands_last p i j a b low before behind far = by (parts p i a before) (parts p j b behind)
    where
      by : Part (attrs_of (short ds).phyla p) (if_there (slice_get (short ds).phyla p) (far_attrs ds p)) i a → Part (attrs_of (short ds).phyla p) (if_there (slice_get (short ds).phyla p) (far_attrs ds p)) j b → is_far b ≡ true
      by (first at) other = absurd (cc (sym far ∙ plain p i a at))
      by (second k is at) (first there) = absurd (let within = slice_get_within (attrs_of (short ds).phyla p) j b there in omega (arith, within, is, low))
      by (second k is at) (second n same there) = borne_far p b (there_far p n b there)

  -- what they list
  pub listings : (spec : Spec) → spec.phyla ≡ (long ds).phyla → (p : ℕ) (a : Attr) → IsBorne ds p a → All (IsListed spec a) a.far
  listings spec same p a x =
      subst (λ (l : List Far). All (IsListed spec a) l) (ap (λ (y : Attr). y.far) x.is)
      (All-from_recursion (IsListed spec a) x.list (each x.list x.legal.each))
    where
      of_far : far_type (short ds).phyla x.list ≡ a.of
      of_far = ap (λ (y : Attr). y.of) x.is

      one : (f : Far) → IsOfType (short ds) (far_type (short ds).phyla x.list) f → IsListed spec a f
      one f y = record {
        attr = y.attr;
        found = ap (λ (l : List Phylum). slice_get (attrs_of l f.phylum) f.slot) same ∙ attr_more (short ds) (far_attrs ds) f.phylum f.slot y.attr y.there;
        written = written_is (is_written y.attr) (plain f.phylum f.slot y.attr y.there);
        type = y.type ∙ of_far;
        inner = ap (λ (l : List Phylum). has_shape l is_leaf_shape f.phylum) same ∙ shape_same (short ds) (far_attrs ds) is_leaf_shape f.phylum ∙ y.inner;
      }
        where
          written_is : (b : Bool) → not b ≡ false → b ≡ true
          written_is true e = refl
          written_is false e = absurd (cc e)

      each : (fs : List Far) → Each (IsOfType (short ds) (far_type (short ds).phyla x.list)) fs → Each (IsListed spec a) fs
      each [] all = tt
      each (f ∷ fs) all = (one f all.0, each fs all.1)

  -- the type of a slot of the left side
  own_type : (op p s : ℕ) (a : Attr) → phylum_of (short ds).ops op ≡ Some p → slice_get (attrs_of (long ds).phyla p) s ≡ Some a → slot_type (drafted (long ds)) op 0 s ≡ Some a.of
  own_type op p s a left at =
      ap (λ o. slice_get (attr_types (drafted (long ds)) o ++ map (λ (l : Local). l.of) (locals_of (short ds).ops op)) s) left
      ∙ slice_get-before (map (λ (b : Attr). b.of) (attrs_of (long ds).phyla p)) (map (λ (l : Local). l.of) (locals_of (short ds).ops op)) s a.of
      (slice_get-map (λ (b : Attr). b.of) (attrs_of (long ds).phyla p) s ∙ ap (option_map (λ (b : Attr). b.of)) at)

  module _ (owners : (op p : ℕ) → phylum_of (short ds).ops op ≡ Some p → (x : Phylum) × (slice_get (short ds).phyla p ≡ Some x)) where
    -- the left side of an operator whose argument bears a far attribute names one of its list, or bears it
    from_source : (op p : ℕ) (a : Attr) → phylum_of (short ds).ops op ≡ Some p → is_far a ≡ true → (s : ℕ) → source_slot (long ds).phyla p a.far ≡ Some s → source (long ds) op a ≡ Some s
    from_source op p a left far s is =
        ap (λ b. if b then option_and_then (λ q. source_slot (long ds).phyla q a.far) (phylum_of (short ds).ops op) else None) far
        ∙ ap (option_and_then (λ q. source_slot (long ds).phyla q a.far)) left ∙ is

    by_list : (op p q : ℕ) (a : Attr) → phylum_of (short ds).ops op ≡ Some p → is_far a ≡ true → IsBorne ds q a → (s : ℕ) → listed_slot a.far p ≡ Some s → HasSource (long ds) op a
    by_list op p q a left far x s is =
        let same : x.list ≡ a.far = ap (λ (y : Attr). y.far) x.is in
        let b = listed_there (short ds) (far_type (short ds).phyla x.list) x.list p s x.legal.each (ap (λ (l : List Far). listed_slot l p) same ∙ is) in
        record {
          slot = s;
          is = from_source op p a left far s (ap (λ o. or_far o (slot_of_far (attrs_of (long ds).phyla p) a.far)) is);
          type = own_type op p s b.0 left (attr_more (short ds) (far_attrs ds) p s b.0 b.1) ∙ ap Some (b.2 ∙ ap (λ (y : Attr). y.of) x.is);
        }

    by_far : (op p q k : ℕ) (a : Attr) → phylum_of (short ds).ops op ≡ Some p → Contains (args_of (short ds).ops op) q → is_far a ≡ true → IsBorne ds q a → listed_slot a.far p ≡ None → HasSource (long ds) op a
    by_far op p q k a left arg far x none =
        let t = short ds in
        let lists = lists_of (atoms t ds) in
        let test = λ (fs : List Far). flag (borne t (atoms t ds) fs) p in
        let same : x.list ≡ a.far = ap (λ (y : Attr). y.far) x.is in
        let up : bears t ds x.list p ≡ true = bears_all t ds x.list p (passes op p q left (ap (λ (l : List Far). listed_slot l p) same ∙ none) arg (bears_only t ds x.list q x.up)) in
        let place = place_of (far_attrs ds p) (far_attr t x.list) (in_map (far_attr t) (filter test lists) x.list (in_filter test lists x.list x.among up)) in
        let y = owners op p left in
        let at : slice_get (attrs_of (long ds).phyla p) (length (attrs_of t.phyla p) + place.0) ≡ Some (far_attr t x.list) =
        ap (λ (l : List Attr). slice_get l (length (attrs_of t.phyla p) + place.0)) (attrs_are t (far_attrs ds) p ∙ ap (λ o. attrs_of t.phyla p ++ if_there o (far_attrs ds p)) y.1)
        ∙ slice_get-behind (attrs_of t.phyla p) (far_attrs ds p) place.0 ∙ place.1 in
        let meets : same_far (far_attr t x.list).far a.far ≡ true = ap (λ (l : List Far). same_far l a.far) same ∙ same_itself a.far in
        let found = passes_at (λ (b : Attr). same_far b.far a.far) (far_attr t x.list) (length (attrs_of t.phyla p) + place.0) (attrs_of (long ds).phyla p) at meets in
        let b = position_there (λ (b : Attr). same_far b.far a.far) (attrs_of (long ds).phyla p) found.0 found.1 in
        let alike : b.0.far ≡ a.far = same_list b.0.far a.far b.2 in
        let z = far_borne p found.0 b.0 b.1 (ap (λ (l : List Far). not (nat_eq (length l) 0)) alike ∙ far) in
        let lists_same : z.list ≡ x.list = ap (λ (c : Attr). c.far) z.is ∙ alike ∙ sym same in
        let types_same : b.0.of ≡ a.of = sym (ap (λ (c : Attr). c.of) z.is) ∙ ap (far_type t.phyla) lists_same ∙ ap (λ (c : Attr). c.of) x.is in
        record {
          slot = found.0;
          is = from_source op p a left far found.0 (ap (λ o. or_far o (slot_of_far (attrs_of (long ds).phyla p) a.far)) none ∙ found.1);
          type = own_type op p found.0 b.0 left b.1 ∙ ap Some types_same;
        }

    sources : (op k q s : ℕ) (a : Attr) → slice_get (args_of (long ds).ops op) k ≡ Some q → slice_get (attrs_of (long ds).phyla q) s ≡ Some a → is_far a ≡ true → HasSource (long ds) op a
    sources op k q s a arg at far = by (slice_get (short ds).ops op) refl arg
      where
        by : (o : Option Operator) → slice_get (short ds).ops op ≡ o → slice_get (unwrap_or (option_map (λ (x : Operator). x.args) o) []) k ≡ Some q → HasSource (long ds) op a
        by None there e = absurd (cc e)
        by (Some o) there e = either (listed_slot a.far o.phylum) refl
          where
            left : phylum_of (short ds).ops op ≡ Some o.phylum
            left = ap (option_map (λ (x : Operator). x.phylum)) there

            either : (l : Option ℕ) → listed_slot a.far o.phylum ≡ l → HasSource (long ds) op a
            either (Some n) is = by_list op o.phylum q a left far (far_borne q s a at far) n is
            either None is = by_far op o.phylum q k a left (at_place (args_of (short ds).ops op) k q arg) far (far_borne q s a at far) is

    pub handed_down : AreHandedDown (long ds)
    handed_down = record {
      inherited = λ p s a at far. ap (λ (y : Attr). y.way) (sym (far_borne p s a at far).is);
      sources = sources;
    }
