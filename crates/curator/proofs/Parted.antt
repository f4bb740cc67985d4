-- 02, K7: 'However a name is parted, every call answers and writes the same.' Of adds; of a search by label: crates/search/specs/Parted.antt.
use Rattle.std.specs.Prelude.{ℕ, true, List, map, ◌≡◌, Float, length}
use Rattle.std.proofs.Common.{sym, ◌∙◌, subst}
use Rattle.label.specs.Names.{names_of, lengths_fit, Name, joined_name, part_lengths, part_bytes}
use Rattle.label.specs.NameLaws.{names_parted, parts-fit}
use Rattle.store.specs.Store.{Store}
use Rattle.std.specs.Prelude.{Result}
use Rattle.settings.specs.declared.refusal.Refusal.{Refusal}
use Rattle.curator.specs.declared.CuratorIndex.{CuratorIndex}
use Rattle.curator.specs.Arguments.{AddCall, add_of}
use Rattle.curator.specs.Changes.{Adds}
use Rattle.curator.proofs.HeldLaws.{adds-is}

-- adds whose lengths fit and whose joined names agree are one call
pub names-alike : (document : ℕ) (vector : List Float) (lengths bytes lengths' bytes' : List ℕ) → lengths_fit lengths (length bytes) ≡ true
    → lengths_fit lengths' (length bytes') ≡ true → names_of lengths bytes ≡ names_of lengths' bytes'
    → add_of document vector lengths bytes ≡ add_of document vector lengths' bytes'
names-alike document vector lengths bytes lengths' bytes' fits fits' e =
    let same = fits ∙ sym fits' in
    λ i. record { document = document; vector = vector; lengths_allowed = same i; names = e i }

-- so names in two parts that are the same joined give the same answer and leave the same lists
pub adds_parted : (index : CuratorIndex) (store : Store) (document : ℕ) (vector : List Float) (names names' : List Name) (answer answer' : Result CuratorIndex Refusal)
    (after after' : Store) → map joined_name names ≡ map joined_name names'
    → Adds index store (add_of document vector (part_lengths names) (part_bytes names)) answer after
    → Adds index store (add_of document vector (part_lengths names') (part_bytes names')) answer' after' → (answer ≡ answer') × (after ≡ after')
adds_parted index store document vector names names' answer answer' after after' e h h' =
    let one = add_of document vector (part_lengths names) (part_bytes names) in
    let same =
    names-alike document vector (part_lengths names') (part_bytes names') (part_lengths names) (part_bytes names) (parts-fit names') (parts-fit names)
    (names_parted names' ∙ sym e ∙ sym (names_parted names)) in
    let (a, s) = adds-is index store one answer after h in
    let (b, t) = adds-is index store one answer' after' (subst (λ (call : AddCall). Adds index store call answer' after') same h') in
    (a ∙ sym b, s ∙ sym t)
