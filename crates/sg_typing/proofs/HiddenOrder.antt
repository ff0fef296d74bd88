-- What schemes cannot show stands in the order of the text, and the walk answers the first of it.
use Rattle.std.proofs.Common.{◌≡◌, refl, sym, ap, subst, ◌∙◌, ℕ, ◌≤◌, List, [], ◌∷◌, ◌++◌, Option, Some, None}
use Rattle.std.specs.Prelude.{flat_map}
use Rattle.std.specs.List.{AllByRecursion, cons_option, filter_map}
use Rattle.sg_kinds.specs.declared.fault.Position.{Position}
use Rattle.sg_ast.specs.Declarations.{Decl, Schemes}
use Rattle.sg_ast.specs.FirstFault.{first, or_else}
use Rattle.sg_ast.specs.Parts.{target_place}
use Rattle.sg_ast.specs.Rising.{RiseFrom, places_of}
use Rattle.sg_ast.specs.Spelling.{spell_item, spell_scheme, spell_target, spell_view}
use Rattle.sg_ast.specs.declared.decl.Item.{Item}
use Rattle.sg_ast.specs.declared.decl.Item.TheVariants.{Writes, Child, Shows, Separates}
use Rattle.sg_ast.specs.declared.decl.SchemeDecl.{SchemeDecl}
use Rattle.sg_ast.specs.declared.decl.Target.{Target}
use Rattle.sg_ast.specs.declared.decl.Target.TheVariants.{Attribute, Local}
use Rattle.sg_names.specs.declared.table.Table.{Table}
use Rattle.sg_typing.specs.Bodies.{operator, target_type}
use Rattle.sg_typing.specs.Mismatches.{listed}
use Rattle.sg_typing.specs.ShownTypes.{all_hidden, first_hidden, hidden, hidden_at, hidden_item, hidden_places, hidden_scheme}
use Rattle.sg_typing.proofs.MismatchHead.{head, head_both}
use Rattle.sg_typing.proofs.MismatchOrder.{Met, none, past, here, met_then, least_first, In, closed, opened, each_in, Begins, occurrence_begins, unless_in}

-- the first of what is kept is the first that is found
head_kept : {X : Type 0} (f : X → Option Position) (xs : List X) → head (filter_map f xs) ≡ first f xs
head_kept f [] = refl
head_kept f (x ∷ xs) = by (f x) (head_kept f xs)
  where
    by : (o : Option Position) → head (filter_map f xs) ≡ first f xs → head (cons_option o (filter_map f xs)) ≡ or_else o (first f xs)
    by None rest = rest
    by (Some p) rest = refl

head_each : {X : Type 0} (f : X → List Position) (g : X → Option Position) → ((x : X) → head (f x) ≡ g x) → (xs : List X) → head (flat_map f xs) ≡ first g xs
head_each f g one [] = refl
head_each f g one (x ∷ xs) = head_both (f x) (flat_map f xs) (g x) (first g xs) (one x) (head_each f g one xs)

module _ (t : Table) where
  decl_head : (d : Decl) → head (hidden_places t d) ≡ hidden_at t d
  decl_head (Schemes n op view schemes) =
      head_each (λ (s : SchemeDecl). filter_map (hidden_item t (operator t n op)) s.items) (hidden_scheme t (operator t n op)) (λ s. head_kept (hidden_item t (operator t n op)) s.items) schemes
  decl_head d = refl

  pub hidden_head : (ds : List Decl) → first_hidden t ds ≡ head (all_hidden t ds)
  hidden_head ds = sym (head_each (hidden_places t) (hidden_at t) decl_head ds)

  -- along the spelling of schemes
  module _ (op : ℕ) where
    hidden_in : (o : Option ℕ) (place : Position) (ys : List Position) → Met (listed (hidden t place o)) (place ∷ ys)
    hidden_in None place ys = here none
    hidden_in (Some p) place ys = unless_in _ place ys

    target_begins : (x : Target) → Begins (target_place x) (spell_target x)
    target_begins (Attribute r) = occurrence_begins r.of _
    target_begins (Local n) = ([], refl)

    item_in : (i : Item) → In (listed (hidden_item t op i)) (spell_item i)
    item_in (Writes s) = none
    item_in (Child how) = none
    item_in (Separates ss) = none
    item_in (Shows x) =
        let b = target_begins x in
        subst (Met (listed (hidden_item t op (Shows x)))) (sym b.1) (hidden_in (target_type t op x) (target_place x) b.0)

    kept_listed : (is : List Item) → filter_map (hidden_item t op) is ≡ flat_map (λ i. listed (hidden_item t op i)) is
    kept_listed [] = refl
    kept_listed (i ∷ is) = by (hidden_item t op i) (kept_listed is)
      where
        by : (o : Option Position) → filter_map (hidden_item t op) is ≡ flat_map (λ i. listed (hidden_item t op i)) is
            → cons_option o (filter_map (hidden_item t op) is) ≡ listed o ++ flat_map (λ i. listed (hidden_item t op i)) is
        by None rest = rest
        by (Some p) rest = ap (λ l. p ∷ l) rest

    items_in : (is : List Item) → In (filter_map (hidden_item t op) is) (flat_map spell_item is)
    items_in is = subst (λ l. In l (flat_map spell_item is)) (sym (kept_listed is)) (each_in (λ i. listed (hidden_item t op i)) spell_item item_in is)

    scheme_in : (s : SchemeDecl) → In (filter_map (hidden_item t op) s.items) (spell_scheme s)
    scheme_in s = past (closed (filter_map (hidden_item t op) s.items) (flat_map spell_item s.items) _ (items_in s.items))

  decl_in : (d : Decl) → Met (hidden_places t d) (places_of d)
  decl_in (Schemes n op view schemes) =
      let k = operator t n op in
      let xs = flat_map (λ (s : SchemeDecl). filter_map (hidden_item t k) s.items) schemes in
      past (past (opened xs (spell_view view) _ (closed xs (flat_map spell_scheme schemes) _ (each_in (λ (s : SchemeDecl). filter_map (hidden_item t k) s.items) spell_scheme (scheme_in k) schemes))))
  decl_in d = none

  all_in : (ds : List Decl) → Met (all_hidden t ds) (flat_map places_of ds)
  all_in [] = none
  all_in (d ∷ ds) = met_then (decl_in d) (all_in ds)

  pub none_hidden_before : (ds : List Decl) → RiseFrom 0 (flat_map places_of ds) → (p : Position) → first_hidden t ds ≡ Some p → AllByRecursion (λ (q : Position). p.token ≤ q.token) (all_hidden t ds)
  none_hidden_before ds rise p h = by (all_hidden t ds) (all_in ds) (sym (hidden_head ds) ∙ h)
    where
      by : (xs : List Position) → Met xs (flat_map places_of ds) → head xs ≡ Some p → AllByRecursion (λ (q : Position). p.token ≤ q.token) xs
      by [] s e = tt
      by (x ∷ xs) s e =
          let same : x ≡ p = cc in
          subst (λ (y : Position). AllByRecursion (λ (q : Position). y.token ≤ q.token) (x ∷ xs)) same (least_first 0 s rise)
