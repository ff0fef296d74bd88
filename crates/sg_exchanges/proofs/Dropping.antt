-- Trees of steps that go.
use Rattle.std.specs.Prelude.{◌≡◌, ◌≢◌, ◌↔◌, refl, ℕ, zero, suc, ◌+◌, ◌≤◌, List, [], ◌∷◌, ◌++◌, length, take, Option, option_to_list}
use Rattle.std.proofs.Common.{sym, ap, ◌∙◌, subst, arith, append_assoc, append-nil}
use Rattle.sg_forest.specs.declared.node_id.NodeId.{NodeId}
use Rattle.sg_forest.specs.Steps.{IsDropped}
use Rattle.sg_forest.specs.Trees.{IsRoot}
use Rattle.sg_pool.proofs.Grown.{grown_same}
use Rattle.sg_groves.specs.Grove.{Grove, nodes, IsGrove}
use Rattle.sg_groves.proofs.Ways.{one_way}
use Rattle.sg_undo.specs.Timeline.{Timeline}
use Rattle.sg_changes.specs.StepChanges.{hanging, tops, tops_of}
use Rattle.sg_changes.specs.declared.step.Step.{Step}
use Rattle.sg_exchanges.specs.Roots.{times, Drops}
use Rattle.sg_exchanges.proofs.Times.{times_append, times_other, times_same}
use Rattle.sg_exchanges.proofs.Trees.{kept_still, kept_twice}

pub drops_none : (g : Grove) → Drops g g []
drops_none g = record {
  spec = refl;
  view = refl;
  pool = refl;
  keeps = λ n top unlisted. kept_still g n;
  roots = λ n. ((λ top. (top, refl)), (λ both. both.0));
}

pub drops_one : (old new : Grove) (r : NodeId) → IsGrove old → IsRoot (nodes old) r → IsDropped (nodes old) (nodes new) r → ((n : NodeId) → IsRoot (nodes new) n ↔ (IsRoot (nodes old) n × (n ≢ r)))
    → new.spec ≡ old.spec → new.view ≡ old.view → new.pool ≡ old.pool → Drops old new (r ∷ [])
drops_one old new r is root dropped roots spec view pool = record {
  spec = spec;
  view = view;
  pool = pool;
  keeps = λ n top unlisted. record {
    spec = spec;
    view = view;
    pool = grown_same old.pool new.pool pool;
    nodes = λ m inside. dropped.others m (λ below. other n unlisted (one_way old is inside.path below.path m n r top root inside.climbs below.climbs).1);
  };
  roots = λ n. (
    (λ top. (let was = (roots n).0 top in (was.0, times_other n r [] was.1))),
    (λ both. (roots n).1 (both.0, other n both.1)),
  );
}
  where
    other : (n : NodeId) → times n (r ∷ []) ≡ 0 → n ≢ r
    other n unlisted same = (let one = times_same r [] in let z = subst (λ m. times m (r ∷ []) ≡ 0) same unlisted in absurd (omega (arith, one, z)))

pub drops_twice : (old mid new : Grove) (xs ys : List NodeId) → Drops old mid xs → Drops mid new ys → Drops old new (xs ++ ys)
drops_twice old mid new xs ys one two = record {
  spec = two.spec ∙ one.spec;
  view = two.view ∙ one.view;
  pool = two.pool ∙ one.pool;
  keeps = λ n top unlisted.
      let e = times_append n xs ys in
      let a : times n xs ≡ 0 = omega (arith, e, unlisted) in
      let b : times n ys ≡ 0 = omega (arith, e, unlisted) in
      kept_twice old mid new n (one.keeps n top a) (two.keeps n ((one.roots n).1 (top, a)) b);
  roots = λ n. (
    (λ top.
        let e = times_append n xs ys in
        let later = (two.roots n).0 top in
        let first = (one.roots n).0 later.0 in
        let a = first.1 in
        let b = later.1 in
        (first.0, omega (arith, e, a, b))),
    (λ both.
        let e = times_append n xs ys in
        let z = both.1 in
        let a : times n xs ≡ 0 = omega (arith, e, z) in
        let b : times n ys ≡ 0 = omega (arith, e, z) in
        (two.roots n).1 ((one.roots n).1 (both.0, a), b)),
  );
}

-- what stands in a list that ends one without another is a root still
pub still_root : (old now : Grove) (gone left : List NodeId) (n : NodeId) → Drops old now gone → IsRoot (nodes old) n → times n gone + times n left ≤ 1 → times n left ≢ 0 → IsRoot (nodes now) n
still_root old now gone left n dropped root once some = (let z : times n gone ≡ 0 = zero_of (times n gone) (times n left) once some in (dropped.roots n).1 (root, z))
  where
    zero_of : (a b : ℕ) → a + b ≤ 1 → b ≢ 0 → a ≡ 0
    zero_of a b h some = omega (arith, h, some)

pub forgot : (old new : Grove) (o : Option NodeId) (hung : List NodeId) → option_to_list o ≡ hung → Drops old new (option_to_list o) → Drops old new hung
forgot old new o hung e dropped = subst (Drops old new) e dropped

-- the future is forgotten step by step
pub record IsForgetting (first now : Grove) (was is : Timeline Step) : Type 0 where
  pub gone : List NodeId
  pub dropped : Drops first now gone
  pub rest : gone ++ tops_of is.future ≡ tops_of was.future
  pub same : is ≡ record was { future = is.future }

pub forgetting_first : (g : Grove) (h : Timeline Step) → IsForgetting g g h h
forgetting_first g h = record { gone = []; dropped = drops_none g; rest = refl; same = refl }

module _ (first now : Grove) (was is next : Timeline Step) (s : Step) (f : IsForgetting first now was is) (taken : s ∷ next.future ≡ is.future) where
  split : f.gone ++ (hanging s ++ tops_of next.future) ≡ tops_of was.future
  split = ap (λ ss. f.gone ++ tops_of ss) taken ∙ f.rest

  counted : (n : NodeId) → times n f.gone + (times n (hanging s) + times n (tops_of next.future)) ≡ times n (tops_of was.future)
  counted n =
      let a = times_append n f.gone (hanging s ++ tops_of next.future) in
      let b = times_append n (hanging s) (tops_of next.future) in
      let c = ap (times n) split in
      omega (arith, a, b, c)

  pub may_forget : ((n : NodeId) → times n (tops_of was.future) ≢ 0 → IsRoot (nodes first) n) → ((n : NodeId) → times n (tops_of was.future) ≤ 1) → (n : NodeId) → times n (hanging s) ≢ 0 → IsRoot (nodes now) n
  may_forget roots once n some =
      let c = counted n in
      let o = once n in
      still_root first now f.gone (hanging s) n f.dropped (roots n (some_of (times n f.gone) (times n (hanging s)) (times n (tops_of next.future)) (times n (tops_of was.future)) c some)) (omega (arith, c, o)) some
    where
      some_of : (a b c d : ℕ) → a + (b + c) ≡ d → b ≢ 0 → d ≢ 0
      some_of a b c d e some z = some (omega (arith, e, z))

  pub forgetting_next : (new : Grove) → Drops now new (hanging s) → next ≡ record is { future = next.future } → IsForgetting first new was next
  forgetting_next new dropped stays = record {
    gone = f.gone ++ hanging s;
    dropped = drops_twice first now new f.gone (hanging s) f.dropped dropped;
    rest = append_assoc f.gone (hanging s) (tops_of next.future) ∙ split;
    same = stays ∙ ap (λ (h : Timeline Step). let r : Timeline Step = record h { future = next.future } in r) f.same;
  }

pub forgetting_last : (first now : Grove) (was is : Timeline Step) → IsForgetting first now was is → is.future ≡ [] → Drops first now (tops_of was.future)
forgetting_last first now was is f none = subst (Drops first now) (sym (append-nil f.gone) ∙ ap (λ ss. f.gone ++ tops_of ss) (sym none) ∙ f.rest) f.dropped

pub forgotten_all : (first now : Grove) (was is : Timeline Step) → IsForgetting first now was is → is.future ≡ [] → is ≡ record was { future = [] }
forgotten_all first now was is f none = f.same ∙ ap (λ ss. let r : Timeline Step = record was { future = ss } in r) none

-- tops of lists of steps
plus_none : (k : ℕ) → k ≡ 0 + k
plus_none k = omega (arith)

pub tops_append : (n : NodeId) (xs ys : List Step) → times n (tops_of (xs ++ ys)) ≡ times n (tops_of xs) + times n (tops_of ys)
tops_append n [] ys = plus_none (times n (tops_of ys))
tops_append n (x ∷ xs) ys =
    let a : times n (tops_of ((x ∷ xs) ++ ys)) ≡ times n (hanging x) + times n (tops_of (xs ++ ys)) = times_append n (hanging x) (tops_of (xs ++ ys)) in
    let b = tops_append n xs ys in
    let c : times n (tops_of (x ∷ xs)) ≡ times n (hanging x) + times n (tops_of xs) = times_append n (hanging x) (tops_of xs) in
    omega (arith, a, b, c)

-- a past with one step more, of which the oldest falls off
count_off : (kept all future : List Step) (oldest : Step) (n : NodeId) → kept ++ (oldest ∷ []) ≡ all
    → times n (tops all future) ≡ (times n (tops_of kept) + times n (hanging oldest)) + times n (tops_of future)
count_off kept all future oldest n e =
    let a : times n (tops all future) ≡ times n (tops_of all) + times n (tops_of future) = times_append n (tops_of all) (tops_of future) in
    let b : times n (tops_of (kept ++ (oldest ∷ []))) ≡ times n (tops_of kept) + times n (tops_of (oldest ∷ [])) = tops_append n kept (oldest ∷ []) in
    let c : times n (tops_of (oldest ∷ [])) ≡ times n (hanging oldest) + 0 = times_append n (hanging oldest) [] in
    let d : times n (tops_of (kept ++ (oldest ∷ []))) ≡ times n (tops_of all) = ap (λ ss. times n (tops_of ss)) e in
    omega (arith, a, b, c, d)

pub future_once : (past future : List Step) → ((n : NodeId) → times n (tops past future) ≤ 1) → (n : NodeId) → times n (tops_of future) ≤ 1
future_once past future once n =
    let a : times n (tops past future) ≡ times n (tops_of past) + times n (tops_of future) = times_append n (tops_of past) (tops_of future) in
    let o = once n in
    omega (arith, a, o)

some_left : (a b c d : ℕ) → d ≡ (a + b) + c → b ≢ 0 → d ≢ 0
some_left a b c d e some z = some (omega (arith, e, z))

pub oldest_root : (first now : Grove) (kept all future : List Step) (oldest : Step) → kept ++ (oldest ∷ []) ≡ all → Drops first now (tops_of future)
    → ((n : NodeId) → times n (tops all future) ≢ 0 → IsRoot (nodes first) n) → ((n : NodeId) → times n (tops all future) ≤ 1)
    → (n : NodeId) → times n (hanging oldest) ≢ 0 → IsRoot (nodes now) n
oldest_root first now kept all future oldest e dropped roots once n some =
    let c = count_off kept all future oldest n e in
    let o = once n in
    still_root first now (tops_of future) (hanging oldest) n dropped
    (roots n (some_left (times n (tops_of kept)) (times n (hanging oldest)) (times n (tops_of future)) (times n (tops all future)) c some)) (omega (arith, c, o)) some

pub gone_then : (first mid now : Grove) (kept all future : List Step) (oldest : Step) → kept ++ (oldest ∷ []) ≡ all
    → Drops first mid (tops_of future) → Drops mid now (hanging oldest)
    → (gone : List NodeId) × Drops first now gone × ((n : NodeId) → times n (tops_of kept) + times n gone ≡ times n (tops all future))
gone_then first mid now kept all future oldest e one two = (
  tops_of future ++ hanging oldest,
  drops_twice first mid now (tops_of future) (hanging oldest) one two,
  (λ n.
      let c = count_off kept all future oldest n e in
      let a = times_append n (tops_of future) (hanging oldest) in
      omega (arith, a, c)),
)

-- what is kept of a past with one step more
take_front : {A : Type 0} (xs ys : List A) (n : ℕ) → length xs ≡ n → take n (xs ++ ys) ≡ xs
take_front [] ys zero e = refl
take_front [] ys (suc n) e = absurd (omega (arith, e))
take_front (x ∷ xs) ys zero e = absurd (omega (arith, e))
take_front (x ∷ xs) ys (suc n) e = ap (λ l. x ∷ l) (take_front xs ys n (omega (arith, e)))

take_whole : {A : Type 0} (xs : List A) (n : ℕ) → length xs ≤ n → take n xs ≡ xs
take_whole [] zero h = refl
take_whole [] (suc n) h = refl
take_whole (x ∷ xs) zero h = absurd (omega (arith, h))
take_whole (x ∷ xs) (suc n) h = ap (λ l. x ∷ l) (take_whole xs n (omega (arith, h)))

pub hung_root : (g : Grove) (hung : List NodeId) (top : NodeId) → top ∷ [] ≡ hung → ((n : NodeId) → times n hung ≢ 0 → IsRoot (nodes g) n) → IsRoot (nodes g) top
hung_root g hung top is roots =
    let one = times_same top [] in
    roots top (subst (λ ns. times top ns ≢ 0) is (some (times top (top ∷ [])) one))
  where
    some : (k : ℕ) → k ≡ suc (times top []) → k ≢ 0
    some k e z = omega (arith, e, z)
