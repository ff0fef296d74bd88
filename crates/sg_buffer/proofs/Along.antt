-- A buffer after the nearest change of one way is gone along.
use Rattle.std.specs.Prelude.{◌≡◌, ◌≢◌, refl, ℕ, ◌+◌, ◌≤◌, true, List, [], ◌∷◌, ◌++◌, length, slice_get, IfSome, Option, None, Some}
use Rattle.std.proofs.Common.{sym, ap, ◌∙◌, subst, arith}
use Rattle.std.proofs.lemmas.Option.{none-some, same_Some}
use Rattle.sg_kinds.specs.Terms.{Term, nodes_of}
use Rattle.sg_kinds.specs.Fits.{Fits}
use Rattle.sg_kinds.specs.Places.{place_of}
use Rattle.sg_kinds.specs.Sound.{IsSmall}
use Rattle.sg_kinds.specs.declared.spec.Spec.{Spec}
use Rattle.sg_eval.specs.declared.journal.Instance.{Instance}
use Rattle.sg_forest.specs.declared.node_id.NodeId.{NodeId}
use Rattle.sg_forest.specs.Trees.{Climbs, IsRoot}
use Rattle.sg_groves.specs.Grove.{Grove, nodes, IsGrove}
use Rattle.sg_groves.specs.TermAt.{term_at}
use Rattle.sg_changes.specs.Captured.{Captured}
use Rattle.sg_changes.specs.Chain.{AllGo, CanGo, IsProper, Passes, Stands}
use Rattle.sg_changes.specs.Changes.{Change, chosen, opposite, part_of, spot_along, term_along}
use Rattle.sg_changes.specs.StepChanges.{Agree, Exchanged, change_along, hanging, hung, told_along, tops, tops_of}
use Rattle.sg_changes.specs.declared.direction.Direction.{Direction}
use Rattle.sg_changes.specs.declared.direction.Direction.TheVariants.{Back, Forth}
use Rattle.sg_changes.specs.declared.spot.Spot.{Spot}
use Rattle.sg_changes.specs.declared.step.Step.{Step}
use Rattle.sg_changes.specs.declared.step.Step.TheVariants.{Replaced, Marked}
use Rattle.sg_changes.proofs.Chained.{go_chains}
use Rattle.sg_changes.proofs.Telling.{told_ahead, told_behind}
use Rattle.sg_undo.specs.Timeline.{Timeline}
use Rattle.sg_unparse.specs.Sheet.{Sheet}
use Rattle.sg_buffer.specs.declared.standing.Standing.{Standing}
use Rattle.sg_states.specs.Beginnings.{Begins}
use Rattle.sg_states.specs.Selections.{place_in}
use Rattle.sg_states.specs.Seen.{is_spot, nothing_typed, respotted}
use Rattle.sg_states.specs.States.{State, ahead, gone, gone_by}
use Rattle.sg_states.specs.Paged.{IsWhole, page_seen}
use Rattle.sg_states.proofs.Foretold.{if_some}
use Rattle.sg_states.proofs.Spotted.{settled_seen}
use Rattle.sg_exchanges.specs.Roots.{times, AreTheRoots}
use Rattle.sg_exchanges.specs.Stepped.{IsStepped, MayGo, coming, seen_along, spot_then, step_place}
use Rattle.sg_exchanges.specs.Turns.{Notes, NotesSome, comes_out, goes_in, made}
use Rattle.sg_exchanges.specs.declared.stepped.Stepped.{Stepped}
use Rattle.sg_exchanges.proofs.Hanging.{agree_then, keeps_by, listed_apart, listed_root, roots_alike, times_future, times_past}
use Rattle.sg_exchanges.proofs.Stepping.{in_along, made_along, may_mark, may_swap, out_along, part_along, spot_there}
use Rattle.sg_exchanges.proofs.Times.{times_append, times_cons, times_same}
use Rattle.sg_buffer.specs.Gains.{Gained, NotedAlong, OfFirst}
use Rattle.sg_buffer.specs.Held.{Held, state_of, typed_by}
use Rattle.sg_buffer.specs.Buffers.{StandsFor, IsBuffer}
use Rattle.sg_buffer.proofs.Closing.{Closes, closes}
use Rattle.sg_buffer.proofs.Stands.{no_capture}

-- the fields then
abbrev pub stepped_held : Held → Grove → Stepped → List Step → List Step → Held
stepped_held b new r past future = record {
  grove = new;
  root = r.root;
  selected = r.selected;
  count = r.count;
  top = r.top;
  height = b.height;
  past = past;
  future = future;
  capture = b.capture;
}

-- the selected node's path, and where it begins, where that is told
abbrev pub standing_then : Stepped → Standing
standing_then r = record { way = r.way; begins = r.begins }

-- the first step of a list, and the others
abbrev pub rest_of : List Step → List Step
rest_of [] = []
rest_of (s ∷ ss) = ss

pub first_step : (ss : List Step) (s : Step) → Some s ≡ slice_get ss 0 → ss ≡ s ∷ rest_of ss
first_step [] s e = absurd (none-some s (sym e))
first_step (x ∷ ss) s e = ap (λ z. z ∷ ss) (sym (same_Some s x e))

pub no_step : (ss : List Step) → None ≡ slice_get ss 0 → ss ≡ []
no_step [] e = refl
no_step (x ∷ ss) e = absurd (none-some x e)

no_cons : (x : Change) (xs : List Change) → x ∷ xs ≡ [] → ⊥
no_cons x xs same = absurd (cc same)

-- the steps that lie that way; past and future once the nearest one of them is another one on the other side
abbrev pub steps_along : Direction → Held → List Step
steps_along d b = chosen d b.past b.future

abbrev pub past_then : Direction → Held → List Step → Step → List Step
past_then d b rest x = chosen d rest (x ∷ b.past)

abbrev pub future_then : Direction → Held → List Step → Step → List Step
future_then d b rest x = chosen d (x ∷ b.future) rest

-- what holds of the steps ahead and of those behind holds of past and future
module _ (P : Direction → List Step → List Change → Type 0) where
  of_past : (d : Direction) (rest : List Step) (x : Step) (past future : List Step) (older : List Change) (c : Change) (ps fs : List Change)
      → P d rest older → P (opposite d) (x ∷ chosen (opposite d) past future) (c ∷ chosen (opposite d) ps fs) → P Back (chosen d rest (x ∷ past)) (chosen d older (c ∷ ps))
  of_past Back rest x past future older c ps fs one two = one
  of_past Forth rest x past future older c ps fs one two = two

  of_future : (d : Direction) (rest : List Step) (x : Step) (past future : List Step) (older : List Change) (c : Change) (ps fs : List Change)
      → P d rest older → P (opposite d) (x ∷ chosen (opposite d) past future) (c ∷ chosen (opposite d) ps fs) → P Forth (chosen d (x ∷ future) rest) (chosen d (c ∷ fs) older)
  of_future Back rest x past future older c ps fs one two = two
  of_future Forth rest x past future older c ps fs one two = one

module _ (b : Held) where
  told_there : StandsFor b (state_of b) → (d : Direction) → told_along (term_at b.grove) d (state_of b).term (steps_along d b) ≡ ahead d (state_of b)
  told_there is Back = is.past
  told_there is Forth = is.future

  all_there : StandsFor b (state_of b) → (d : Direction) → AllGo b.grove.spec (Passes (is_spot b.grove.spec b.height)) d (state_of b).term (ahead d (state_of b))
  all_there is Back = is.undoes
  all_there is Forth = is.redoes

  -- the tops that steps keep, now and then
  tops_swap : (n : NodeId) (xs ys : List Step) → times n (tops xs ys) ≡ times n (tops ys xs)
  tops_swap n xs ys =
      let a = times_append n (tops_of xs) (tops_of ys) in
      let c = times_append n (tops_of ys) (tops_of xs) in
      omega (arith, a, c)

  times_now : (d : Direction) (s : Step) (rest : List Step) → steps_along d b ≡ s ∷ rest → (n : NodeId)
      → times n (tops b.past b.future) ≡ times n (hanging s) + times n (tops rest (steps_along (opposite d) b))
  times_now Back s rest is n = ap (λ ss. times n (tops ss b.future)) is ∙ times_past n s rest b.future
  times_now Forth s rest is n =
      ap (λ ss. times n (tops b.past ss)) is ∙ times_future n s b.past rest ∙ ap (λ k. times n (hanging s) + k) (tops_swap n b.past rest)

  times_then : (d : Direction) (x : Step) (rest : List Step) (n : NodeId)
      → times n (tops (past_then d b rest x) (future_then d b rest x)) ≡ times n (hanging x) + times n (tops rest (steps_along (opposite d) b))
  times_then Back x rest n = times_future n x rest b.future
  times_then Forth x rest n = times_past n x b.past rest ∙ ap (λ k. times n (hanging x) + k) (tops_swap n b.past rest)

  few_then : (d : Direction) (s x : Step) (rest : List Step) → steps_along d b ≡ s ∷ rest → length b.past + length b.future ≤ 256
      → length (past_then d b rest x) + length (future_then d b rest x) ≤ 256
  few_then Back s x rest is few = (let e = ap length is in omega (arith, e, few))
  few_then Forth s x rest is few = (let e = ap length is in omega (arith, e, few))

-- a way may go along a step
pub may_along : (g : Grove) → IsGrove g → (root : NodeId) (t : Term) (height count : ℕ) → IsWhole g root t → Fits g.spec t g.spec.root → count ≡ nodes_of t → IsSmall t
    → (d : Direction) (s : Step) → ((n : NodeId) → times n (hanging s) ≢ 0 → IsRoot (nodes g) n × (n ≢ root)) → Stands d t (change_along (term_at g) d t s) → IsProper g.spec (change_along (term_at g) d t s)
    → IsSmall (term_along d t (change_along (term_at g) d t s)) → is_spot g.spec height (made (term_at g) t (step_place s) (coming d s)) (seen_along d s) ≡ true
    → MayGo g root t d s height count
may_along g is root t height count whole fits counted small Back (Replaced path hangs before after) roots at proper later there =
    let top = roots hangs (let e = times_same hangs [] in λ z. absurd (omega (arith, e, z))) in
    may_swap g is root t (step_place (Replaced path hangs before after)) height before count whole fits counted small hangs (part_of t (place_of path)) proper.0 top.0 top.1 at proper.2 proper.1 later there
may_along g is root t height count whole fits counted small Back (Marked path old new before after) roots at proper later there =
    may_mark g is root t (step_place (Marked path old new before after)) height before count whole fits counted small new old at proper.0 later there
may_along g is root t height count whole fits counted small Forth (Replaced path hangs before after) roots at proper later there =
    let top = roots hangs (let e = times_same hangs [] in λ z. absurd (omega (arith, e, z))) in
    may_swap g is root t (step_place (Replaced path hangs before after)) height after count whole fits counted small hangs (part_of t (place_of path)) proper.0 top.0 top.1 at proper.1 proper.2 later there
may_along g is root t height count whole fits counted small Forth (Marked path old new before after) roots at proper later there =
    may_mark g is root t (step_place (Marked path old new before after)) height after count whole fits counted small old new at proper.1 later there

module _ (b : Held) (count room : ℕ) (page : Option Sheet) (standing : Standing) (is : IsBuffer b count room page standing) (d : Direction) (s : Step) (rest : List Step) (ahead_is : steps_along d b ≡ s ∷ rest) where
  abbrev st : State
  st = state_of b

  abbrev g : Grove
  g = b.grove

  abbrev c : Change
  c = change_along (term_at b.grove) d (state_of b).term s

  abbrev older : List Change
  older = told_along (term_at b.grove) d (term_along d (state_of b).term c) rest

  abbrev behind : List Step
  behind = steps_along (opposite d) b

  pub ahead_then : c ∷ older ≡ ahead d st
  ahead_then = subst (λ ss. told_along (term_at g) d st.term ss ≡ ahead d st) ahead_is (told_there b is.stands d)

  all : AllGo g.spec (Passes (is_spot g.spec b.height)) d st.term (c ∷ older)
  all = subst (AllGo g.spec (Passes (is_spot g.spec b.height)) d st.term) (sym ahead_then) (all_there b is.stands d)

  can : CanGo g.spec (Passes (is_spot g.spec b.height)) d st.term c
  can = all.0

  hangs : (n : NodeId) → times n (hanging s) ≢ 0 → IsRoot (nodes g) n × (n ≢ b.root)
  hangs n some =
      let e = times_now b d s rest ahead_is n in
      let more : times n (tops b.past b.future) ≢ 0 = λ z. some (omega (arith, e, z)) in
      (listed_root g b.root (tops b.past b.future) is.stands.roots n more, listed_apart g b.root (tops b.past b.future) is.stands.roots n more)

  made_is : made (term_at g) st.term (step_place s) (coming d s) ≡ term_along d st.term c
  made_is = made_along (term_at g) st.term d s

  -- the spot of the step is one of the term then
  spot_may : is_spot g.spec b.height (made (term_at g) st.term (step_place s) (coming d s)) (seen_along d s) ≡ true
  spot_may =
      subst (λ z. is_spot g.spec b.height (made (term_at g) st.term (step_place s) (coming d s)) z ≡ true) (sym (spot_there (term_at g) st.term d s))
      (subst (λ z. is_spot g.spec b.height z (spot_along d c) ≡ true) (sym made_is) can.there)

  pub may_go : MayGo g b.root st.term d s b.height count
  may_go = may_along g is.stands.grove b.root st.term b.height count is.stands.whole is.stands.fits is.counted is.stands.small d s hangs can.stands can.proper can.small spot_may

  roots_split : AreTheRoots g (b.root ∷ (goes_in (coming d s) ++ tops rest behind))
  roots_split = roots_alike g (b.root ∷ tops b.past b.future) (b.root ∷ (goes_in (coming d s) ++ tops rest behind)) same is.stands.roots
    where
      same : (n : NodeId) → times n (b.root ∷ (goes_in (coming d s) ++ tops rest behind)) ≡ times n (b.root ∷ tops b.past b.future)
      same n =
          let p = times_cons n b.root (goes_in (coming d s) ++ tops rest behind) in
          let q = times_cons n b.root (tops b.past b.future) in
          let r = times_append n (goes_in (coming d s)) (tops rest behind) in
          let e = times_now b d s rest ahead_is n in
          let i = ap (times n) (in_along d s) in
          omega (arith, p, q, r, e, i)

  -- the nearest change of the state
  pub gone_is : gone g.spec b.height d st ≡ gone_by g.spec b.height d (c ∷ older) st
  gone_is = ap (λ cs. gone_by g.spec b.height d cs st) (sym ahead_then)

  -- what is selected and seen then, settled in the view of the state
  abbrev end : Term
  end = term_along d st.term c

  abbrev spot : Spot
  spot = respotted g.spec b.height st.spot.view end (spot_along d c)

  spot_is : spot_then g st.term d s b.height ≡ spot
  spot_is =
      ap (λ w. respotted g.spec b.height w (made (term_at g) st.term (step_place s) (coming d s)) (seen_along d s)) is.stands.view
      ∙ ap (λ z. respotted g.spec b.height st.spot.view z (seen_along d s)) made_is
      ∙ ap (respotted g.spec b.height st.spot.view end) (spot_there (term_at g) st.term d s)

  module _ (new : Grove) (on : IsGrove new) (spec : new.spec ≡ g.spec) (shown : new.view ≡ g.view) (r : Stepped) (stepped : IsStepped g new b.root st.term (step_place s) (coming d s) (spot_then g st.term d s b.height) r) where
    abbrev over : Step
    over = hung s r.out

    abbrev then : Held
    then = stepped_held b new r (past_then d b rest over) (future_then d b rest over)

    agree : Agree (term_at g) (term_at new) (tops rest behind)
    agree = agree_then g new is.stands.grove on b.root (goes_in (coming d s)) (tops rest behind) roots_split (keeps_by g new b.root (coming d s) stepped.turned.hanging)

    exchanged : Exchanged (term_at g) (term_at new) st.term s r.out rest behind
    exchanged = record { top = part_along new on d st.term s r.out stepped.turned.out; others = agree }

    whole : IsWhole new r.root end
    whole = subst (IsWhole new r.root) made_is stepped.turned.whole

    selected : Climbs (nodes new) (place_in spot.selection) r.selected r.root
    selected = subst (λ (z : Spot). Climbs (nodes new) (place_in z.selection) r.selected r.root) spot_is stepped.selected

    page_told : (o : Option Captured) → o ≡ None → IfSome r.page (λ p. p ≡ page_seen new r.root end (typed_by o (place_in spot.selection)))
    page_told o none =
        if_some (λ p. p ≡ page_seen new r.root (made (term_at g) st.term (step_place s) (coming d s)) nothing_typed) (λ p. p ≡ page_seen new r.root end (typed_by o (place_in spot.selection))) r.page
        (λ p told. told ∙ ap (λ t. page_seen new r.root t nothing_typed) made_is ∙ sym (ap (λ z. page_seen new r.root end (typed_by z (place_in spot.selection))) none)) stepped.page

    begins_told : IfSome r.begins (Begins new.spec spot.view end (place_in spot.selection))
    begins_told =
        subst (λ (z : Spot). IfSome r.begins (Begins new.spec spot.view end (place_in z.selection))) spot_is
        (subst (λ t. IfSome r.begins (Begins new.spec spot.view t (place_in (spot_then g st.term d s b.height).selection))) made_is
        (subst (λ w. IfSome r.begins (Begins new.spec w (made (term_at g) st.term (step_place s) (coming d s)) (place_in (spot_then g st.term d s b.height).selection))) (shown ∙ is.stands.view) stepped.begins))

    roots_then : AreTheRoots new (r.root ∷ tops (past_then d b rest over) (future_then d b rest over))
    roots_then =
        roots_alike new (r.root ∷ (comes_out (coming d s) r.out ++ tops rest behind)) (r.root ∷ tops (past_then d b rest over) (future_then d b rest over)) same (stepped.turned.roots (tops rest behind) roots_split)
      where
        same : (n : NodeId) → times n (r.root ∷ tops (past_then d b rest over) (future_then d b rest over)) ≡ times n (r.root ∷ (comes_out (coming d s) r.out ++ tops rest behind))
        same n =
            let p = times_cons n r.root (tops (past_then d b rest over) (future_then d b rest over)) in
            let q = times_cons n r.root (comes_out (coming d s) r.out ++ tops rest behind) in
            let a = times_append n (comes_out (coming d s) r.out) (tops rest behind) in
            let e = times_then b d over rest n in
            let i = ap (times n) (out_along d s r.out) in
            omega (arith, p, q, a, e, i)

    -- the changes ahead and behind
    ahead_told : told_along (term_at new) d end rest ≡ older
    ahead_told = told_ahead (term_at g) (term_at new) d st.term s r.out rest behind exchanged

    behind_told : told_along (term_at new) (opposite d) end (over ∷ behind) ≡ c ∷ ahead (opposite d) st
    behind_told =
        told_behind (term_at g) (term_at new) d st.term s r.out rest behind exchanged can.stands
        ∙ ap (λ cs. c ∷ cs) (told_there b is.stands (opposite d))

    ahead_goes : AllGo new.spec (Passes (is_spot new.spec b.height)) d end older
    ahead_goes = subst (λ (z : Spec). AllGo z (Passes (is_spot z b.height)) d end older) (sym spec) all.1

    behind_goes : AllGo new.spec (Passes (is_spot new.spec b.height)) (opposite d) end (c ∷ ahead (opposite d) st)
    behind_goes =
        subst (λ (z : Spec). AllGo z (Passes (is_spot z b.height)) (opposite d) end (c ∷ ahead (opposite d) st)) (sym spec)
        (go_chains g.spec (Passes (is_spot g.spec b.height)) d st.term c (ahead (opposite d) st) is.stands.small can (all_there b is.stands (opposite d)))

    abbrev Told : Direction → List Step → List Change → Type 0
    Told e ss cs = told_along (term_at new) e end ss ≡ cs

    abbrev CanAll : Direction → List Step → List Change → Type 0
    CanAll e ss cs = AllGo new.spec (Passes (is_spot new.spec b.height)) e end cs

    gone_stands : b.capture ≡ None → StandsFor then (gone_by g.spec b.height d (c ∷ older) st)
    gone_stands none = record {
      grove = on;
      whole = whole;
      fits = subst (λ (z : Spec). Fits z end z.root) (sym spec) (subst (λ t. Fits g.spec t g.spec.root) made_is stepped.turned.fits);
      small = can.small;
      tall = is.stands.tall;
      selected = selected;
      count = stepped.count ∙ ap (λ (z : Spot). z.selection.count) spot_is;
      top = stepped.top ∙ ap (λ (z : Spot). z.top) spot_is;
      view = shown ∙ is.stands.view;
      spot = subst (λ (z : Spec). is_spot z b.height end spot ≡ true) (sym spec) (settled_seen g.spec b.height end st.spot.view (spot_along d c) is.stands.tall);
      past = of_past Told d rest over b.past b.future older c st.past st.future ahead_told behind_told;
      future = of_future Told d rest over b.past b.future older c st.past st.future ahead_told behind_told;
      undoes = of_past CanAll d rest over b.past b.future older c st.past st.future ahead_goes behind_goes;
      redoes = of_future CanAll d rest over b.past b.future older c st.past st.future ahead_goes behind_goes;
      roots = roots_then;
      capture = is.stands.capture;
      alone = no_capture then none r.count;
    }

    pub gone_closes : b.capture ≡ None → Closes then (gone_by g.spec b.height d (c ∷ older) st) r.nodes room r.page (standing_then r)
    gone_closes none =
        closes then (gone_by g.spec b.height d (c ∷ older) st) r.nodes room r.page (standing_then r) (gone_stands none) (stepped.counted ∙ ap nodes_of made_is) is.room_is
        (few_then b d s over rest ahead_is is.few) (page_told b.capture none) (stepped.path ∙ ap (λ (z : Spot). z.selection.path) spot_is, begins_told)

-- what the journal gains
gained : (g new : Grove) (root : NodeId) (t : Term) (d : Direction) (s : Step) (was now : List Instance) → Notes g new root t (step_place s) (coming d s) was now
    → Gained d g.spec t was now new root (change_along (term_at g) d t s)
gained g new root t Back (Replaced path hangs before after) was now notes = notes
gained g new root t Back (Marked path old made before after) was now notes = notes
gained g new root t Forth (Replaced path hangs before after) was now notes = notes
gained g new root t Forth (Marked path old made before after) was now notes = notes

noted : (g : Grove) (root : NodeId) (t : Term) (d : Direction) (s : Step) (was now : List Instance) → NotesSome g root t (step_place s) (coming d s) was now
    → NotedAlong d g root t was now (change_along (term_at g) d t s)
noted g root t Back (Replaced path hangs before after) was now notes = (hangs, notes)
noted g root t Back (Marked path old made before after) was now notes = notes
noted g root t Forth (Replaced path hangs before after) was now notes = (hangs, notes)
noted g root t Forth (Marked path old made before after) was now notes = notes

-- where the fields are seen as another value
module _ (b v : Held) (view : b ≡ v) (count room : ℕ) (page : Option Sheet) (standing : Standing) (is : IsBuffer b count room page standing) (d : Direction) where
  pub nothing_ahead : steps_along d b ≡ [] → ahead d (state_of v) ≡ []
  nothing_ahead none =
      subst (λ (z : Held). ahead d (state_of z) ≡ []) view (sym (told_there b is.stands d) ∙ ap (told_along (term_at b.grove) d (state_of b).term) none)

  module _ (s : Step) (rest : List Step) (ahead_is : steps_along d b ≡ s ∷ rest) where
    pub some_ahead : ahead d (state_of v) ≢ []
    some_ahead none =
        no_cons (change_along (term_at b.grove) d (state_of b).term s) (told_along (term_at b.grove) d (term_along d (state_of b).term (change_along (term_at b.grove) d (state_of b).term s)) rest)
        (ahead_then b count room page standing is d s rest ahead_is ∙ subst (λ (z : Held). ahead d (state_of z) ≡ []) (sym view) none)

    pub gone_here : v.capture ≡ None → (new : Grove) → IsGrove new → new.spec ≡ b.grove.spec → new.view ≡ b.grove.view → (r : Stepped)
        → ((t : Term) → MayGo b.grove b.root t d s b.height count → IsStepped b.grove new b.root t (step_place s) (coming d s) (spot_then b.grove t d s b.height) r)
        → (h : Timeline Step) → h.past ≡ past_then d b rest (hung s r.out) → h.future ≡ future_then d b rest (hung s r.out) → h.room ≡ room
        → IsBuffer (stepped_held b new r h.past h.future) r.nodes h.room r.page (standing_then r) × (state_of (stepped_held b new r h.past h.future) ≡ gone v.grove.spec v.height d (state_of v))
    gone_here none new on spec shown r stepped h past future room_is =
        let e = gone_closes b count room page standing is d s rest ahead_is new on spec shown r (stepped (state_of b).term (may_go b count room page standing is d s rest ahead_is)) (ap (λ (z : Held). z.capture) view ∙ none) in (
          subst (λ k. IsBuffer (stepped_held b new r h.past h.future) r.nodes k r.page (standing_then r)) (sym room_is)
              (subst (λ ss. IsBuffer (stepped_held b new r h.past ss) r.nodes room r.page (standing_then r)) (sym future)
              (subst (λ ss. IsBuffer (stepped_held b new r ss (future_then d b rest (hung s r.out))) r.nodes room r.page (standing_then r)) (sym past) e.is)),
          subst (λ (z : Held). state_of (stepped_held b new r h.past h.future) ≡ gone z.grove.spec z.height d (state_of z)) view
              (ap (λ ss. state_of (stepped_held b new r ss h.future)) past ∙ ap (λ ss. state_of (stepped_held b new r (past_then d b rest (hung s r.out)) ss)) future
              ∙ e.told ∙ sym (gone_is b count room page standing is d s rest ahead_is)),
        )

    pub gained_here : (new : Grove) (root : NodeId) (was now : List Instance)
        → ((t : Term) → MayGo b.grove b.root t d s b.height count → Notes b.grove new root t (step_place s) (coming d s) was now)
        → OfFirst (ahead d (state_of v)) (Gained d v.grove.spec (state_of v).term was now new root)
    gained_here new root was now notes =
        subst (λ (z : Held). OfFirst (ahead d (state_of z)) (Gained d z.grove.spec (state_of z).term was now new root)) view
        (subst (λ cs. OfFirst cs (Gained d b.grove.spec (state_of b).term was now new root)) (ahead_then b count room page standing is d s rest ahead_is)
        (gained b.grove new root (state_of b).term d s was now (notes (state_of b).term (may_go b count room page standing is d s rest ahead_is))))

    pub noted_here : (was now : List Instance)
        → ((t : Term) → MayGo b.grove b.root t d s b.height count → NotesSome b.grove b.root t (step_place s) (coming d s) was now)
        → OfFirst (ahead d (state_of v)) (NotedAlong d v.grove v.root (state_of v).term was now)
    noted_here was now notes =
        subst (λ (z : Held). OfFirst (ahead d (state_of z)) (NotedAlong d z.grove z.root (state_of z).term was now)) view
        (subst (λ cs. OfFirst cs (NotedAlong d b.grove b.root (state_of b).term was now)) (ahead_then b count room page standing is d s rest ahead_is)
        (noted b.grove b.root (state_of b).term d s was now (notes (state_of b).term (may_go b count room page standing is d s rest ahead_is))))
