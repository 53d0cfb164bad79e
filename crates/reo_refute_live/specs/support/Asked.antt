-- What is asked of a side.
use Rattle.reo_net_base.specs.Net.{Net}
use Rattle.reo_joint_values.specs.Values.{Family}
use Rattle.reo_refute_base.specs.Live.{alone}
use Rattle.reo_refute_live.specs.declared.support.asked.Asked.{Asked}
use Rattle.reo_refute_live.specs.support.Families.{family_of}
use Rattle.reo_refute_live.specs.support.Flows.{AreReady}

-- A side can be asked: there are its columns, an item list for each joint, and what is live.
abbrev pub IsAsked : {P : Type 0} → Net → Asked P → Type 0
IsAsked net asked = AreReady net asked.side asked.lists.now asked.columns.now asked.live.now

-- What is live where the joint that is held has its value alone.
abbrev pub held_in : {P : Type 0} → Asked P → Family
held_in asked = alone (family_of asked.live.now) asked.held asked.value
