-- Demand 3, proved for every setting and every list of calls. Nothing is assumed but what the statement names.
use Rattle.std.specs.Prelude.{ℕ, ◌≤◌, List, [], ◌∷◌, ◌≡◌}
use Rattle.settings.specs.Refusals.{check_number}
use Rattle.runs.specs.Calls.{Call}
use Rattle.runs.specs.Model.{Setting, Model, empty_model, model_check, expected, after}
use Rattle.runs.specs.Run.{Ended, Run}
use Rattle.runs.specs.Theorem.{end_number, Matches, AtEach, InPairs, Distinct, Premise, NeverDamaged, Better, Marked, WholeIsFirst, with_budget, Demand3}
use Rattle.runs.proofs.Reached.{Ends, Along, ends_each, run_allowed, each_map, along_all, end-number, never}
use Rattle.runs.proofs.Contents.{all_same}
use Rattle.runs.proofs.Larger.{in_pairs, call_alike, call_better}
use Rattle.runs.proofs.Whole.{call_whole, call_marked}

-- nothing is asked of the models
anything : (s : Setting) (m : Model) (calls : List Call) → Along s (λ x. Unit {0}) m calls
anything s m [] = tt
anything s m (call ∷ calls) = (tt, anything s (after s m call) calls)

-- a claim about each call that follows from how it ended
each : (s : Setting) (calls : List Call) (claim : Model → Call → Ended → Type 0) → ((m : Model) (call : Call) (end : Ended) → Ends s m call end → claim m call end)
    → (ends : List Ended) → Run s calls ends → AtEach s claim empty_model calls ends
each s calls claim f ends run =
    each_map s (λ x. Unit {0}) (Ends s) claim (λ m call end g x. f m call end x) empty_model calls ends (anything s empty_model calls) (ends_each s calls ends run)

pub demand3 : (s : Setting) (calls : List Call) → Demand3 s calls
demand3 s calls =
    record {
      numbers = each s calls (λ m call end. end_number end ≡ check_number (model_check s m call)) (λ m call end x. end-number s m call end x.matches);
      matches = each s calls (λ m call end. Matches (expected s m call) call end) (λ m call end x. x.matches);
      never = each s calls (λ m call end. NeverDamaged end) (λ m call end x. never s m call end x.matches);
      marked = λ ends run.
          each s calls (λ m call end. Marked s m end) (λ m call end x. call_marked s (run_allowed s calls ends run) m x.within call end x.matches) ends run;
      alike = λ calls' e ef ends ends' run run'.
          in_pairs s ef (λ x. Unit {0}) (λ end end'. end_number end ≡ end_number end')
          (λ m call call' e end end' g x y. call_alike s ef m call call' e end end' x.matches y.matches) empty_model calls calls' e ends ends'
          (anything s empty_model calls) (ends_each s calls ends run) (ends_each (with_budget ef s) calls' ends' run');
      larger = λ p calls' e ef more ends ends' run run'.
          in_pairs s ef Distinct Better
          (λ m call call' e end end' d x y. call_better s (run_allowed s calls ends run) ef more m x.within d x.small call call' e end end' x.matches y.matches)
          empty_model calls calls' e ends ends' (along_all s Distinct empty_model calls p) (ends_each s calls ends run) (ends_each (with_budget ef s) calls' ends' run');
      whole = λ p ends run.
          each_map s Distinct (Ends s) (λ m call end. WholeIsFirst m call end)
          (λ m call end d x. call_whole s (run_allowed s calls ends run) m x.within d x.small call end x.matches) empty_model calls ends
          (along_all s Distinct empty_model calls p) (ends_each s calls ends run);
    }

-- (a) for two runs of the very same calls, contents included
pub alike-same-calls : (s : Setting) (calls : List Call) (ef : ℕ) (ends ends' : List Ended) → Run s calls ends → Run (with_budget ef s) calls ends'
    → InPairs (λ end end'. end_number end ≡ end_number end') ends ends'
alike-same-calls s calls ef ends ends' run run' = (demand3 s calls).alike calls (all_same calls) ef ends ends' run run'

pub larger-same-calls : (s : Setting) (calls : List Call) → Premise s calls → (ef : ℕ) → s.params.ef_search ≤ ef → (ends ends' : List Ended) → Run s calls ends
    → Run (with_budget ef s) calls ends' → InPairs Better ends ends'
larger-same-calls s calls p ef more ends ends' run run' = (demand3 s calls).larger p calls (all_same calls) ef more ends ends' run run'
