-- The first fault of a chain, given by a function and a bound below which the nodes have a link.
use Rattle.std.proofs.Common.{ap, ◌≡◌, ◌≢◌, ◌+◌, ◌<◌, ◌≤◌, ℕ, zero, suc, List, [], ◌∷◌, ◌++◌, ◌⊎◌, ⊎_elim, inl, inr, length, Option, Some, None, refl, sym, subst}
use native.Mathlib.Omega.{arith}
use Rattle.std.specs.List.{Contains, All, AllPairs}
use Rattle.std.proofs.lemmas.Bool.{cases_lt}
use Rattle.std.proofs.lemmas.List.{length-append}
use Rattle.std.proofs.lemmas.List.Elements.{All-push, All-nil}
use Rattle.chain_core.specs.Path.{Leads, IsPathWithin}
use Rattle.chain_core.specs.declared.chain.PathFault.{PathFault}
use Rattle.chain_core.specs.declared.chain.PathFault.TheVariants.{Outside, Loop, OutOfMemory}
use Rattle.chain_core.specs.Faults.{IsWay, IsFaultWithin, IsFirstOutside, IsFirstMetAgain}
use Rattle.chain_core.specs.Nodes.{On, Once}
use Rattle.chain_core.proofs.Members.{On-from_Contains, Contains-from_On, Once-from_AllPairs, AllPairs-from_Once, on_all, on_right, once_parts, on_or_not, once_push, once_within}
use Rattle.chain_core.proofs.Ways.{path_after, path_once, path_begins, way_begins, ways_meet, leads_on}

-- a path and a node without a link
no_path_outside : (next : ℕ → Option ℕ) (bound : ℕ) (first : Option ℕ) (nodes : List ℕ) (node : ℕ) → IsPathWithin next bound first nodes → IsFirstOutside next bound first node → ⊥
no_path_outside next bound first nodes node is outside =
    let rest = path_after next first (Some node) outside.0 nodes outside.1.leads is.path in
    let begins = path_begins next node rest.0 rest.2 in
    let on : On node nodes = subst (λ l. On node l) (sym rest.1) (on_right outside.0 rest.0 node begins) in
    let within = on_all (λ n. n < bound) nodes node is.inside on in
    omega (arith, within, outside.2)

-- a path and a node that is met again
no_path_met : (next : ℕ → Option ℕ) (bound : ℕ) (first : Option ℕ) (nodes : List ℕ) (node : ℕ) → IsPathWithin next bound first nodes → IsFirstMetAgain next bound first node → ⊥
no_path_met next bound first nodes node is met =
    let rest = path_after next first (Some node) met.0 nodes met.1.leads is.path in
    let begins = path_begins next node rest.0 rest.2 in
    once_parts met.0 rest.0 node (subst Once rest.1 (path_once next first nodes is.path)) (On-from_Contains met.0 node met.2) begins

-- where one way to a node goes on to another node, the first is the second or is met on the way to it
met_before : (next : ℕ → Option ℕ) (a b : ℕ) (xs ys zs : List ℕ) → ys ≡ xs ++ zs → Leads next (Some a) zs (Some b) → (a ≡ b) ⊎ (On a zs × On a ys)
met_before next a b xs ys zs is way = ⊎_elim
    (λ same. inl same)
    (λ on. inr (on, subst (On a) (sym is) (on_right xs zs a on)))
    (way_begins next a b zs way)

-- a node without a link is met on no way to a fault
not_met_on_way : (next : ℕ → Option ℕ) (bound : ℕ) (first : Option ℕ) (seen : List ℕ) (a b : ℕ) → bound ≤ a → IsWay next bound first seen b → On a seen → ⊥
not_met_on_way next bound first seen a b past way on =
    let within = on_all (λ n. n < bound) seen a way.inside on in
    omega (arith, within, past)

outside_one : (next : ℕ → Option ℕ) (bound : ℕ) (first : Option ℕ) (a b : ℕ) → IsFirstOutside next bound first a → IsFirstOutside next bound first b → a ≡ b
outside_one next bound first a b one other = ⊎_elim
    (λ longer. ⊎_elim
    (λ same. same)
    (λ on. absurd (not_met_on_way next bound first other.0 a b one.2 other.1 on.1))
    (met_before next a b one.0 other.0 longer.0 longer.1 longer.2))
    (λ shorter. ⊎_elim
    (λ same. sym same)
    (λ on. absurd (not_met_on_way next bound first one.0 b a other.2 one.1 on.1))
    (met_before next b a other.0 one.0 shorter.0 shorter.1 shorter.2))
    (ways_meet next first (Some a) (Some b) one.0 other.0 one.1.leads other.1.leads)

outside_not_met : (next : ℕ → Option ℕ) (bound : ℕ) (first : Option ℕ) (a b : ℕ) → IsFirstOutside next bound first a → IsFirstMetAgain next bound first b → ⊥
outside_not_met next bound first a b out met = ⊎_elim
    (λ longer. ⊎_elim
    (λ same. not_met_on_way next bound first met.0 a b out.2 met.1 (subst (λ n. On n met.0) (sym same) (On-from_Contains met.0 b met.2)))
    (λ on. not_met_on_way next bound first met.0 a b out.2 met.1 on.1)
    (met_before next a b out.0 met.0 longer.0 longer.1 longer.2))
    (λ shorter. ⊎_elim
    (λ same. not_met_on_way next bound first met.0 a b out.2 met.1 (subst (λ n. On n met.0) same (On-from_Contains met.0 b met.2)))
    (λ on. once_parts met.0 shorter.0 b (subst Once shorter.1 (Once-from_AllPairs out.0 out.1.once)) (On-from_Contains met.0 b met.2) on.0)
    (met_before next b a met.0 out.0 shorter.0 shorter.1 shorter.2))
    (ways_meet next first (Some a) (Some b) out.0 met.0 out.1.leads met.1.leads)

met_further : (next : ℕ → Option ℕ) (a b : ℕ) (xs ys zs : List ℕ) → Contains xs a → AllPairs (λ earlier later. earlier ≢ later) ys → ys ≡ xs ++ zs → Leads next (Some a) zs (Some b) → a ≡ b
met_further next a b xs ys zs has once is way = ⊎_elim
    (λ same. same)
    (λ on. absurd (once_parts xs zs a (subst Once is (Once-from_AllPairs ys once)) (On-from_Contains xs a has) on.0))
    (met_before next a b xs ys zs is way)

met_one : (next : ℕ → Option ℕ) (bound : ℕ) (first : Option ℕ) (a b : ℕ) → IsFirstMetAgain next bound first a → IsFirstMetAgain next bound first b → a ≡ b
met_one next bound first a b one other = ⊎_elim
    (λ longer. met_further next a b one.0 other.0 longer.0 one.2 other.1.once longer.1 longer.2)
    (λ shorter. sym (met_further next b a other.0 one.0 shorter.0 other.2 one.1.once shorter.1 shorter.2))
    (ways_meet next first (Some a) (Some b) one.0 other.0 one.1.leads other.1.leads)

-- the same of every fault
pub no_path_fault : (next : ℕ → Option ℕ) (bound : ℕ) (first : Option ℕ) (nodes : List ℕ) (fault : PathFault) → IsPathWithin next bound first nodes → IsFaultWithin next bound first fault → ⊥
no_path_fault next bound first nodes (Outside node) is fault = no_path_outside next bound first nodes node is fault
no_path_fault next bound first nodes (Loop node) is fault = no_path_met next bound first nodes node is fault
no_path_fault next bound first nodes OutOfMemory is fault = fault

pub fault_one : (next : ℕ → Option ℕ) (bound : ℕ) (first : Option ℕ) (a b : PathFault) → IsFaultWithin next bound first a → IsFaultWithin next bound first b → a ≡ b
fault_one next bound first (Outside a) (Outside b) one other = ap Outside (outside_one next bound first a b one other)
fault_one next bound first (Outside a) (Loop b) one other = absurd (outside_not_met next bound first a b one other)
fault_one next bound first (Outside a) OutOfMemory one other = absurd other
fault_one next bound first (Loop a) (Outside b) one other = absurd (outside_not_met next bound first b a other one)
fault_one next bound first (Loop a) (Loop b) one other = ap Loop (met_one next bound first a b one other)
fault_one next bound first (Loop a) OutOfMemory one other = absurd other
fault_one next bound first OutOfMemory b one other = absurd one

-- a path, or a first fault
abbrev pub Ends : (ℕ → Option ℕ) → ℕ → Option ℕ → Type 0
Ends next bound first = ((nodes : List ℕ) × IsPathWithin next bound first nodes) ⊎ ((fault : PathFault) × IsFaultWithin next bound first fault)

-- a walk that has met these nodes is at its end, or at a fault, or meets one more node
ends_or : (next : ℕ → Option ℕ) (bound : ℕ) (first at : Option ℕ) (seen : List ℕ) → Leads next first seen at → All (λ node. node < bound) seen → Once seen →
    ((node : ℕ) → at ≡ Some node → node < bound → (On node seen → ⊥) → Ends next bound first) → Ends next bound first
ends_or next bound first None seen leads inside once more = inl (seen, record { path = leads; inside = inside })
ends_or next bound first (Some node) seen leads inside once more =
    let way : IsWay next bound first seen node = record { leads = leads; inside = inside; once = AllPairs-from_Once seen once } in
    ⊎_elim
    (λ below. ⊎_elim
    (λ on. inr (Loop node, (seen, way, Contains-from_On seen node on)))
    (λ absent. more node refl below absent)
    (on_or_not seen node))
    (λ past. inr (Outside node, (seen, way, past)))
    (cases_lt node bound)

-- so it ends, where it has met all but so many of the nodes below the bound
ends_from : (left : ℕ) (next : ℕ → Option ℕ) (bound : ℕ) (first at : Option ℕ) (seen : List ℕ) → bound ≤ length seen + left → Leads next first seen at → All (λ node. node < bound) seen → Once seen → Ends next bound first
ends_from zero next bound first at seen room leads inside once = ends_or next bound first at seen leads inside once
    (λ node is below absent.
    let full = once_within bound (seen ++ node ∷ []) (once_push seen node once absent) (All-push (λ n. n < bound) seen node inside below) in
    let size = length-append seen (node ∷ []) in
    absurd (omega (arith, full, size, room)))
ends_from (suc left) next bound first at seen room leads inside once = ends_or next bound first at seen leads inside once
    (λ node is below absent.
    let size = length-append seen (node ∷ []) in
    let on : Leads next first (seen ++ node ∷ []) (next node) = leads_on next first (Some node) (next node) seen (node ∷ []) (subst (Leads next first seen) is leads) (refl, refl) in
    ends_from left next bound first (next node) (seen ++ node ∷ []) (omega (arith, size, room)) on (All-push (λ n. n < bound) seen node inside below) (once_push seen node once absent))

-- every chain has a path or a fault
pub path_or_fault : (next : ℕ → Option ℕ) (bound : ℕ) (first : Option ℕ) → Ends next bound first
path_or_fault next bound first = ends_from bound next bound first first [] (omega arith) refl (All-nil (λ node. node < bound)) tt
