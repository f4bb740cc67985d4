-- The claim about a whole file: the texts of its steps, joined, are what is printed of it. It is proved in Prints.antt.
use Rattle.std.specs.Prelude.{ℕ, List, [], ◌∷◌, ◌≡◌, length, take, Option, None}
use Rattle.lists.specs.Lists.{joined}
use Rattle.store.specs.Store.{Store, work_size}
use Rattle.store.specs.Lent.{lengths_of, sizes_of}
use Rattle.curator.specs.declared.CuratorIndex.{CuratorIndex}
use Rattle.load.specs.declared.LoadStep.TheVariants.{Ended, Next}
use Rattle.load.specs.File.{largest, answer_places, file_text}
use Rattle.load.specs.Step.{LoadLists, Steps}

-- the sizes of the lists that the program lends
pub record Sized (lent : LoadLists) : Type 0 where
  pub store : lengths_of lent.store ≡ sizes_of largest
  pub work : length lent.work ≡ work_size largest
  pub ids : length lent.ids ≡ answer_places
  pub distances : length lent.distances ≡ answer_places

-- Steps one after the other, from a place of the file and a store on, and the texts that they wrote. The store is handed on as it was left; work, answer
-- and text lists may be others at each step.
pub data Chain (file : List ℕ) : ℕ → Option CuratorIndex → Store → List (List ℕ) → Type 0 where
  last :
      {at n : ℕ} {loading : Option CuratorIndex} {lent lent' : LoadLists} {text text' : List ℕ} →
      Sized lent → Steps file at loading lent text (Ended n) lent' text' → Chain file at loading lent.store (take n text' ∷ [])
  more :
      {at at' n : ℕ} {loading loading' : Option CuratorIndex} {lent lent' : LoadLists} {text text' : List ℕ} {texts : List (List ℕ)} →
      Sized lent → Steps file at loading lent text (Next loading' at' n) lent' text' → Chain file at' loading' lent'.store texts
      → Chain file at loading lent.store (take n text' ∷ texts)

-- From the beginning of a file, with a store of any content.
abbrev pub Prints : List ℕ → Type 0
Prints file = (store : Store) (texts : List (List ℕ)) → Chain file 0 None store texts → joined (λ text. text) texts ≡ file_text file
