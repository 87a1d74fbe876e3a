-- A walk along a chain.
use Rattle.std.proofs.Common.{◌≡◌, ◌+◌, suc, arith, ℕ, List, [], ◌∷◌, ◌++◌, map, Option, Some, None, refl, sym, ap, subst, ◌∙◌}
use Rattle.std.proofs.lemmas.List.{map-append}
use Rattle.chain_core.specs.Path.{Leads}
use Rattle.marked_word.specs.Link.{link_word, node_of}
use Rattle.table_shape.specs.declared.place.Place.TheVariants as place
use Rattle.atomic_step.specs.Table.{word_at}
use Rattle.table_shape.specs.declared.shape.Shape.{Shape}
use Rattle.cht_core.specs.Anew.{text_at}
use Rattle.cht_core.specs.State.{Core}
use Rattle.schedule_sim.specs.PrintedLines.{Shows, chain_line}
use Rattle.schedule_sim.specs.Turns.{Prints, ShowsChain}
use Rattle.schedule_sim.proofs.Texts.{one_line}
use Rattle.schedule_sim.specs.Chains.{IsChain, IsPresent, next_at, first_at}

-- the walk has met these texts and comes to a node next
abbrev pub HasMet : Shape → List ℕ → ℕ → ℕ → List (List ℕ) → Option ℕ → Type 0
HasMet shape words row bucket texts to =
    (nodes : List ℕ) × Leads (next_at shape words) (first_at shape words row bucket) nodes to × (texts ≡ map (text_at shape words) nodes)

leads_on : (next : ℕ → Option ℕ) (from : Option ℕ) (nodes : List ℕ) (node : ℕ) → Leads next from nodes (Some node) → Leads next from (nodes ++ node ∷ []) (next node)
leads_on next from [] node is = (is, refl)
leads_on next from (first ∷ nodes) node leads = (leads.0, leads_on next (next first) nodes node leads.1)

pub met_none : (shape : Shape) (words : List ℕ) (row bucket : ℕ) → HasMet shape words row bucket [] (first_at shape words row bucket)
met_none shape words row bucket = ([], refl, refl)

pub met_more : (shape : Shape) (words : List ℕ) (row bucket : ℕ) (texts : List (List ℕ)) (slot : ℕ) → HasMet shape words row bucket texts (Some slot) →
    HasMet shape words row bucket (texts ++ text_at shape words slot ∷ []) (next_at shape words slot)
met_more shape words row bucket texts slot (nodes, leads, are) =
    (nodes ++ slot ∷ [], leads_on (next_at shape words) _ nodes slot leads, ap (λ l. l ++ text_at shape words slot ∷ []) are ∙ sym (map-append (text_at shape words) nodes (slot ∷ [])))

-- the node of the word of a link
node_back : (after : Option ℕ) → node_of (link_word after) ≡ after
node_back None = refl
node_back (Some node) =
    let one : suc node ≡ node + 1 = omega arith in
    subst (λ m. node_of m ≡ Some node) one refl

pub met_next : (shape : Shape) (words : List ℕ) (row bucket : ℕ) (old new : List (List ℕ)) (text : List ℕ) (slot : ℕ) (here after : Option ℕ) (word : ℕ) →
    HasMet shape words row bucket old here → here ≡ Some slot → text ≡ text_at shape words slot → new ≡ old ++ text ∷ [] → word ≡ word_at shape (place.Link slot) words →
    link_word after ≡ word → HasMet shape words row bucket new after
met_next shape words row bucket old new text slot here after word met is_here is_text is_new is_word is_link =
    let more = met_more shape words row bucket old slot (subst (λ o. HasMet shape words row bucket old o) is_here met) in
    let next : next_at shape words slot ≡ after = sym (ap node_of (is_link ∙ is_word)) ∙ node_back after in
    let all : old ++ text_at shape words slot ∷ [] ≡ new = sym (is_new ∙ ap (λ t. old ++ t ∷ []) is_text) in
    subst (λ o. HasMet shape words row bucket new o) next (subst (λ l. HasMet shape words row bucket l (next_at shape words slot)) all more)

-- the chain of a present bucket is printed
pub chain_shown : (shape : Shape) (words : List ℕ) (row bucket level place : ℕ) (c : Core) (texts : List (List ℕ)) (out new : List ℕ) → words ≡ c.words → c.table.shape ≡ shape →
    level ≡ row → place ≡ bucket → IsPresent shape words row bucket → IsChain shape words level place texts → new ≡ out ++ chain_line row bucket texts →
    Prints (λ items. ShowsChain row bucket c items c) out new
chain_shown shape words row bucket level place c texts out new same_words same_shape same_row same_bucket present chain is = (
  Shows row bucket texts ∷ [],
  record {
    stays = refl;
    present = subst (λ w. IsPresent c.table.shape w row bucket) same_words (subst (λ s. IsPresent s words row bucket) (sym same_shape) present);
    texts = texts;
    chain =
        subst (λ w. IsChain c.table.shape w row bucket texts) same_words
        (subst (λ s. IsChain s words row bucket texts) (sym same_shape) (subst (λ b. IsChain shape words row b texts) same_bucket (subst (λ r. IsChain shape words r place texts) same_row chain)));
    printed = refl;
  },
  one_line out new (Shows row bucket texts) is,
)
