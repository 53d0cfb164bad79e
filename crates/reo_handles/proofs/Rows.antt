-- What the calls that make and unmake a box take. Assumes `Logic`.
use Rattle.std.proofs.Common.{List, [], ◌∷◌, refl}
use seplogic.Ra.Ura.{Ura}
use mir.Raw.{raw as bare}
use mir.Val.{Val}
use types.Logic.{Logic}
use denote.RattleType.{RattleType}
use denote.Laws.{Is, Typed}
use denote.Exit.{no}
use denote.Param.{arg, layout}
use denote.Param.Laws.{Laws, arg_laws}
use Rattle.std_alloc.specs.contracts.boxed.Box as boxed
use Rattle.std_alloc.proofs.boxed.Box.TheLaws as boxed_laws
use Rattle.std_heap.specs.contracts.Global as Heap
use Rattle.std_heap.specs.contracts.GlobalAllocator.TheImpl.{ghosts}
use Rattle.std_heap.proofs.Global.TheLaws as heap
use Rattle.reo_handles.specs.contracts.session.Session as session
use Rattle.reo_handles.proofs.session.Session.TheLaws as session_laws

abbrev pub S : RattleType
S = session.the_row

-- The heap.
abbrev pub A : RattleType
A = Heap.the_row

-- Both as the arguments of a call, at their layouts with no names.
abbrev pub S-arg : RattleType
S-arg = arg (bare (layout S)) no S

pub S-laws : Laws S-arg
S-laws = arg_laws (bare (layout S)) no S session_laws.the_row_laws refl

abbrev pub A-arg : RattleType
A-arg = arg (bare (layout A)) no A

pub A-laws : Laws A-arg
A-laws = arg_laws (bare (layout A)) no A heap.the_row_laws refl

abbrev pub Boxed : RattleType
Boxed = boxed.the_row S A ghosts

-- The words of a box and of a handle of the heap are of their types.
pub box_typed : {M : Type 1} {𝓤 : Ura M} (𝓛 : Logic 𝓤) (v : Boxed.Denot) (vs : List Val) → Is Boxed v vs → Typed (layout Boxed ∷ []) vs
box_typed 𝓛 v vs is = ((boxed_laws.the_field_loose S A ghosts session_laws.the_row_laws heap.the_row_laws).lawful 𝓛).typed v vs is

pub heap_typed : {M : Type 1} {𝓤 : Ura M} (𝓛 : Logic 𝓤) (a : A.Denot) (vs : List Val) → Is A a vs → Typed (layout A ∷ []) vs
heap_typed 𝓛 a vs is = (heap.the_row_laws.lawful 𝓛).typed a vs is
