-- Laws of a build: what an accepted one leaves, of an unbuilt index and of a built one.
use Rattle.std.specs.Prelude.{ℕ, Bool, true, false, List, ◌≡◌, refl, length}
use Rattle.std.proofs.Common.{subst, arith}
use Rattle.store.specs.Store.{Store}
use Rattle.std.specs.Prelude.{Result, Ok, Err, ⊤}
use Rattle.settings.specs.declared.refusal.Refusal.{Refusal}
use Rattle.curator.specs.declared.CuratorIndex.{CuratorIndex}
use Rattle.curator.specs.Calls.{built_with}
use Rattle.curator.specs.Changes.{build_check, held_nodes, LaidOut, BuildsFine, BuildsBy, Builds}
use Rattle.curator.specs.OutcomeLaws.{carried-is, refused_is}

-- an accepted build of an unbuilt index leaves the layout of the tree of what is held
pub builds-accepted : (index : CuratorIndex) (store : Store) (work : List ℕ) (index' : CuratorIndex) (store' : Store) (work' : List ℕ)
    → Builds index store work (Ok index') store' work' → index.built ≡ false
    → (build_check index store work ≡ (Ok tt)) × (index' ≡ built_with index (length (held_nodes index store))) × LaidOut index store work store' work'
unfolding Builds BuildsBy BuildsFine
builds-accepted index store work index' store' work' h b = by (build_check index store work) refl h
  where
    by : (check : Result ⊤ Refusal) → build_check index store work ≡ check → BuildsBy check index store work (Ok index') store' work'
        → (build_check index store work ≡ (Ok tt)) × (index' ≡ built_with index (length (held_nodes index store))) × LaidOut index store work store' work'
    by (Ok _) e g =
        let (a, l) = subst (λ (t : Bool). BuildsFine t index store work (Ok index') store' work') b g in
        let same = carried-is (built_with index (length (held_nodes index store))) (Ok index') a in
        (e, (cc), l)
    by (Err r) e (a, l) = let same = refused_is r (Ok index') a in let z : ◌≡◌ {A = ℕ} 0 1 = cc in absurd (omega arith)

-- an accepted build of a built index changes nothing
pub builds_again : (index : CuratorIndex) (store : Store) (work : List ℕ) (index' : CuratorIndex) (store' : Store) (work' : List ℕ)
    → Builds index store work (Ok index') store' work' → index.built ≡ true → (index' ≡ index) × (store' ≡ store) × (work' ≡ work)
unfolding Builds BuildsBy BuildsFine
builds_again index store work index' store' work' h b = by (build_check index store work) h
  where
    by : (check : Result ⊤ Refusal) → BuildsBy check index store work (Ok index') store' work' → (index' ≡ index) × (store' ≡ store) × (work' ≡ work)
    by (Ok _) g =
        let (a, s, w) = subst (λ (t : Bool). BuildsFine t index store work (Ok index') store' work') b g in
        let same = carried-is index (Ok index') a in
        ((cc), s, w)
    by (Err r) (a, l) = let same = refused_is r (Ok index') a in let z : ◌≡◌ {A = ℕ} 0 1 = cc in absurd (omega arith)
