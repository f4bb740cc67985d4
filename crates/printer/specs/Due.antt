-- What is printed of a file (`file_text`, crates/load/specs/File.antt), text by text: each text that is handed on to be written is the next part of it. So
-- long as a chain of steps goes on, whatever it prints is the rest; and every chain does (crates/load/specs/Exists.antt).
use Rattle.std.specs.Prelude.{ℕ, ◌+◌, ◌≡◌, refl, Option, None}
use mathlib.Core.List.{List, [], ◌∷◌, ◌++◌, append_assoc, append-nil}
use Rattle.std.proofs.Math.Path.{sym, ap, subst}
use Rattle.std.proofs.Common.{◌∙◌}
use Rattle.std.proofs.Math.ListN.{length, take, length-append}
use Rattle.lists.specs.Lists.{joined}
use Rattle.store.specs.Store.{Store}
use Rattle.echo_file.specs.Format.{Bytes}
use Rattle.curator.specs.declared.CuratorIndex.{CuratorIndex}
use Rattle.load.specs.declared.LoadStep.{LoadStep}
use Rattle.load.specs.declared.LoadStep.TheVariants.{Ended, Next}
use Rattle.load.specs.File.{file_text}
use Rattle.load.specs.Step.{LoadLists, Steps, printed_of}
use Rattle.load.specs.Theorem.{Sized, Chain, last, more}
use Rattle.load.specs.Prints.{prints}
use Rattle.load.specs.Exists.{chain_from}

-- a text that comes next, after the first `done` bytes of what is printed of a file
pub record Due (file : List ℕ) (done : ℕ) (text : List ℕ) : Type 0 where
  pub before : List ℕ
  pub after : List ℕ
  pub count : length before ≡ done
  pub whole : file_text file ≡ before ++ (text ++ after)

-- How far a file has been printed: its first `done` bytes, and whatever steps go on from here, their texts are the rest.
pub record Reached (file : List ℕ) (done at : ℕ) (loading : Option CuratorIndex) (store : Store) : Type 0 where
  pub before : List ℕ
  pub count : length before ≡ done
  pub rest : (texts : List (List ℕ)) → Chain file at loading store texts → file_text file ≡ before ++ joined (λ text. text) texts

pub due-begins : (file : List ℕ) (store : Store) → Reached file 0 0 None store
due-begins file store = record { before = []; count = refl; rest = λ texts chain. sym (prints file store texts chain) }

-- a step from there, whose text is handed on
module _ {file : List ℕ} {done at : ℕ} {loading : Option CuratorIndex} {lent lent' : LoadLists} {text text' : List ℕ} (here : Reached file done at loading lent.store)
    (z : Sized lent) where
  -- its text comes next: after the last step nothing does, and after any other some chain goes on
  pub text-due : Bytes file → Sized lent' → (step : LoadStep) → Steps file at loading lent text step lent' text' → Due file done (take (printed_of step) text')
  unfolding joined
  text-due bytes z' (Ended n) st =
      record { before = here.before; after = []; count = here.count; whole = here.rest (take n text' ∷ []) (last z st) }
  text-due bytes z' (Next loading' at' n) st =
      let later = chain_from file bytes at' loading' lent' z' in
      record {
        before = here.before;
        after = joined (λ text. text) later.0;
        count = here.count;
        whole = here.rest (take n text' ∷ later.0) (more z st later.1);
      }

  -- how far the file has been printed with it
  pub goes_on_lem : {step : LoadStep} {loading' : Option CuratorIndex} {at' n done' : ℕ} → Steps file at loading lent text step lent' text' → step ≡ Next loading' at' n
      → done' ≡ done + length (take (printed_of step) text') → Reached file done' at' loading' lent'.store
  unfolding joined
  goes_on_lem {step} {loading'} {at'} {n} {done'} st e d =
      let is = subst (λ (s : LoadStep). Steps file at loading lent text s lent' text') e st in
      let more-done : done' ≡ done + length (take n text') = d ∙ ap (λ (s : LoadStep). done + length (take (printed_of s) text')) e in
      record {
        before = here.before ++ take n text';
        count = length-append here.before (take n text') ∙ ap (λ (k : ℕ). k + length (take n text')) here.count ∙ sym more-done;
        rest = λ texts chain. here.rest (take n text' ∷ texts) (more z is chain)
            ∙ sym (append_assoc here.before (take n text') (joined (λ text. text) texts));
      }

  -- and with the last one all of it
  pub all-printed : {step : LoadStep} {n done' : ℕ} → Steps file at loading lent text step lent' text' → step ≡ Ended n
      → done' ≡ done + length (take (printed_of step) text') → done' ≡ length (file_text file)
  unfolding joined
  all-printed {step} {n} {done'} st e d =
      let is = subst (λ (s : LoadStep). Steps file at loading lent text s lent' text') e st in
      let whole = here.rest (take n text' ∷ []) (last z is) ∙ ap (λ (l : List ℕ). here.before ++ l) (append-nil (take n text')) in
      d ∙ ap (λ (s : LoadStep). done + length (take (printed_of s) text')) e
      ∙ sym (ap length whole ∙ length-append here.before (take n text') ∙ ap (λ (k : ℕ). k + length (take n text')) here.count)
