-- The instances of a term, their rules and their arguments.
use Rattle.std.specs.Prelude.{ℕ, zero, suc, ◌+◌, Bool, false, cond, ◌&&◌, List, [], ◌∷◌, ◌++◌, map, filter, flat_map, find, length, nat_eq, Option, Some, None, option_map, unwrap_or, is_some}
use Rattle.sg_kinds.specs.Terms.{Term}
use Rattle.sg_kinds.specs.Specification.{Rule, Rules, Occurrence, attrs_of, locals_of, is_inherited}
use Rattle.sg_kinds.specs.Places.{Place, places_in}
use Rattle.sg_kinds.specs.Nets.{Net, Reference, NodeLabel, Operation, Holding, Missing, phylum_at, referred, net_of}

-- the equation of an operator that defines an occurrence
abbrev pub defines : ℕ → Occurrence → Rule → Bool
defines op o r = nat_eq r.op op && (nat_eq r.target.at o.at && nat_eq r.target.slot o.slot)

abbrev pub rule_for : List Rule → ℕ → Occurrence → Option Rule
rule_for rules op o = find (defines op o) rules

-- an equation at the node whose operator has it
pub record Site (N : Type 0) : Type 0 where
  pub node : N
  pub rule : Rule

abbrev pub rule_under : List Rule → NodeLabel → Occurrence → Option Rule
rule_under rules (Operation op) o = rule_for rules op o
rule_under rules (Holding p v) o = None
rule_under rules Missing o = None

abbrev pub site_at : {N : Type 0} → List Rule → Net N → N → Occurrence → Option (Site N)
site_at rules net n o = option_map (λ r. record { node = n; rule = r }) (rule_under rules (net.label n) o)

-- the equation of an instance: an inherited attribute has it at the node above, all else at the node itself
abbrev pub site_above : {N : Type 0} → List Rule → Net N → ℕ → Option (N × ℕ) → Option (Site N)
site_above rules net slot None = None
site_above rules net slot (Some (m, k)) = site_at rules net m (record { at = suc k; slot = slot })

abbrev pub is_inherited_at : {N : Type 0} → Rules → Net N → Reference N → Bool
is_inherited_at rules net a = unwrap_or (option_map (λ p. is_inherited rules.phyla p a.slot)
    (phylum_at rules.ops (net.label a.node))) false

abbrev pub site_of : {N : Type 0} → Rules → Net N → Reference N → Option (Site N)
site_of rules net a = cond (is_inherited_at rules net a)
    (site_above rules.rules net a.slot (net.up a.node))
    (site_at rules.rules net a.node (record { at = 0; slot = a.slot }))

-- what an equation's expression names, in the rule's order
abbrev pub args_at : {N : Type 0} → Net N → Site N → List (Reference N)
args_at net i = map (referred net i.node) i.rule.args

-- the numbers below n
abbrev pub below : ℕ → List ℕ
below zero = []
below (suc n) = below n ++ n ∷ []

-- how many slots a node has
abbrev pub attr_count : Rules → Option ℕ → ℕ
attr_count rules None = 0
attr_count rules (Some p) = length (attrs_of rules.phyla p)

abbrev pub slots_of : Rules → NodeLabel → ℕ
slots_of rules (Operation op) = attr_count rules (phylum_at rules.ops (Operation op)) + length (locals_of rules.ops op)
slots_of rules (Holding p v) = attr_count rules (Some p)
slots_of rules Missing = 0

-- the instances of a term: the slots of its nodes that have an equation
abbrev pub references_at : Rules → Term → Place → List (Reference Place)
references_at rules t u = map (λ slot. record { node = u; slot = slot }) (below (slots_of rules ((net_of t).label u)))

abbrev pub instances : Rules → Term → List (Reference Place)
instances rules t = filter (λ a. is_some (site_of rules (net_of t) a)) (flat_map (references_at rules t) (places_in t))
