-- A buffer that a call leaves without memory.
use Rattle.std.specs.Prelude.{◌≡◌, Option}
use Rattle.sg_kinds.specs.Values.{Bytes}
use Rattle.sg_kinds.specs.Places.{Place}
use Rattle.sg_pool.specs.Pools.{IsGrown}
use Rattle.sg_forest.specs.declared.node_id.NodeId.{NodeId}
use Rattle.sg_groves.specs.Grove.{nodes}
use Rattle.sg_states.specs.Paged.{page_seen}
use Rattle.sg_buffer.specs.Held.{Held, state_of}

-- nothing changed but the pool of values, which may have grown: every node is as before, with what it stores, and so are
-- the state and the page
pub record IsAsBefore (old new : Held) : Type 0 where
  pub nodes : (n : NodeId) → nodes new.grove n ≡ nodes old.grove n
  pub spec : new.grove.spec ≡ old.grove.spec
  pub pool : IsGrown old.grove.pool new.grove.pool
  pub rest : new ≡ record old { grove = new.grove }
  pub state : state_of new ≡ state_of old
  pub page : (typed : Place → Option Bytes) → page_seen new.grove new.root (state_of new).term typed
      ≡ page_seen old.grove old.root (state_of old).term typed
