-- Document 01, 'Runs', and 02: the calls of a run, of two kinds: those that change the index, and searches.
use Rattle.std.specs.Prelude.{ℕ, ◌<◌, ◌^◌, List, [], ◌∷◌, ◌≡◌, length}
use Rattle.store.specs.declared.Lengths.{Lengths}
use Rattle.curator.specs.Arguments.{AddCall, SearchCall}

-- a call that changes the index, with its arguments
pub data Change : Type 0 where
  add : AddCall → Change
  take_back : Change
  withdraw : ℕ → Change
  build : Change

-- 'Its calls are add, build, filtered search and search'; 'Taking back may stand among demand 3's calls' (02, K3), and so may withdrawing (02, K10) and a search
-- with two labels (02, K1). Each comes with the fronts and the work list that it is lent. 'A call may be lent only the front of a list': how much of each list of
-- the store is lent. 'Work and answer lists may be others at each call, of any length and content.' An add, a taking back or a withdrawal is lent no work list:
-- nothing looks at the one that stands here.
pub data Call : Type 0 where
  change : Lengths → List ℕ → Change → Call
  search : Lengths → List ℕ → SearchCall → Call

-- ---- the types of arguments

-- the document id of an add is a u32; of a withdrawal nothing is asked
abbrev pub Typed : Change → Type 0
Typed (add call) = call.document < 2 ^ 32
Typed take_back = Unit {0}
Typed (withdraw document) = Unit {0}
Typed build = Unit {0}

abbrev pub TypedCall : Call → Type 0
TypedCall (change fronts work c) = Typed c
TypedCall (search fronts work call) = Unit {0}

abbrev pub AllTyped : List Call → Type 0
AllTyped [] = Unit {0}
AllTyped (call ∷ calls) = TypedCall call × AllTyped calls

-- ---- calls that are alike but for the contents of work and answer lists

pub record AlikeSearch (call call' : SearchCall) : Type 0 where
  pub question : call.question ≡ call'.question
  pub k : call.k ≡ call'.k
  pub ids : length call.ids ≡ length call'.ids
  pub distances : length call.distances ≡ length call'.distances

-- the same lengths are lent, and the same is asked; one clause serves every change, so it names a work list where none is lent
abbrev pub Alike : Call → Call → Type 0
Alike (change fronts work c) (change fronts' work' c') = (fronts ≡ fronts') × (length work ≡ length work') × (c ≡ c')
Alike (change fronts work c) (search fronts' work' call') = ⊥
Alike (search fronts work call) (change fronts' work' c') = ⊥
Alike (search fronts work call) (search fronts' work' call') = (fronts ≡ fronts') × (length work ≡ length work') × AlikeSearch call call'

-- call by call
abbrev pub AllAlike : List Call → List Call → Type 0
AllAlike [] [] = Unit {0}
AllAlike [] (call' ∷ calls') = ⊥
AllAlike (call ∷ calls) [] = ⊥
AllAlike (call ∷ calls) (call' ∷ calls') = Alike call call' × AllAlike calls calls'
