-- What a scan of lists has found.
use Rattle.std.proofs.Common.{◌≡◌, ℕ, suc, ◌+◌, ◌<◌, ◌≤◌, List, [], ◌∷◌, ◌++◌, length, get_or, sym, refl, ap, subst, arith}
use Rattle.std.proofs.lemmas.List.Elements.{All-nil}
use Rattle.std.proofs.lemmas.List.{get_or_read}
use mathlib.Core.Logic.{dite}
use native.Mathlib.Decide.{ℕ_discrete}
use Rattle.std.specs.Prelude.{All}
use Rattle.std.specs.List.{AllWithin}
use Rattle.std.specs.Borrow.{Bor}
use Rattle.merge_core.specs.declared.tagged.Tagged.{Tagged}
use Rattle.merge_core.specs.Weaving.{Lists, all_of, next_input, Rise, GivesNext}

-- what is found among the lists before an end
pub record Scanned (first end least : ℕ) (lists : Lists) : Type 0 where
  pub most : least ≤ 4294967296
  pub found : least < 4294967296 → GivesNext first end least lists
  pub none : 4294967296 ≤ least → AllWithin (λ list. list.now ≡ []) lists 0 end

-- one list more
more : (P : Bor (List Tagged) → Type 0) (lists : Lists) (end : ℕ) → AllWithin P lists 0 end → ((d : Bor (List Tagged)) → P (get_or lists end d)) → AllWithin P lists 0 (end + 1)
more P lists end all one k d low lt = dite (ℕ_discrete k end) (λ same. subst (λ n. P (get_or lists n d)) (sym same) (one d)) (λ ne. all k d low (omega (arith, ne)))

above : (first end least input : ℕ) (lists : Lists) → Scanned first end least lists → input < least → AllWithin (λ list. All (λ m. input < m.input) list.now) lists 0 end
above first end least input lists s lt = dite (ℕ_discrete least 4294967296)
    (λ same k d low high. subst (All (λ (m : Tagged). input < m.input)) (sym (s.none (omega (arith, same)) k d low high)) (All-nil (λ (m : Tagged). input < m.input)))
    (λ ne k d low high i e within. let le = (s.found (omega (arith, s.most, ne))).all k d low high i e within in omega arith)

-- a list that rises begins with its least input
from_head : (end : ℕ) (m : Tagged) (ms : List Tagged) (lists : Lists) → Rise lists → end < length lists → ((d : Bor (List Tagged)) → (get_or lists end d).now ≡ m ∷ ms)
    → (d : Bor (List Tagged)) → All (λ n. m.input ≤ n.input) (get_or lists end d).now
from_head end m ms lists rise lt at d i e within =
    let le = rise end d lt 0 i e (omega arith) within in
    omega (arith, le, ap (λ (xs : List Tagged). (get_or xs 0 e).input) (at d))

is_less : (first end least : ℕ) (m : Tagged) (ms : List Tagged) (lists : Lists) → Scanned first end least lists → Rise lists → end < length lists
    → ((d : Bor (List Tagged)) → (get_or lists end d).now ≡ m ∷ ms) → m.input < least → GivesNext end (end + 1) m.input lists
is_less first end least m ms lists s rise within at lt =
    let before = above first end least m.input lists s lt in
    record {
      within = within;
      before = before;
      some = λ d. omega (arith, ap length (at d));
      next = λ d e. ap (λ (xs : List Tagged). (get_or xs 0 e).input) (at d);
      all = more (λ list. All (λ n. m.input ≤ n.input) list.now) lists end (λ k d low high i e in_. let le = before k d low high i e in_ in omega arith) (from_head end m ms lists rise within at);
    }

-- one list more: with a lesser input
pub less : (first end least input : ℕ) (xs : List Tagged) (lists : Lists) → Scanned first end least lists → Rise lists → end < length lists
    → ((d : Bor (List Tagged)) → (get_or lists end d).now ≡ xs) → input ≡ next_input xs → input < least → Scanned end (end + 1) input lists
less first end least input [] lists s rise within at is lt = absurd (omega (arith, s.most, is, lt))
less first end least input (m ∷ ms) lists s rise within at is lt = record {
  most = omega (arith, s.most, lt);
  found = λ small. subst (λ n. GivesNext end (end + 1) n lists) (sym is) (is_less first end least m ms lists s rise within at (omega (arith, is, lt)));
  none = λ great. absurd (omega (arith, s.most, lt, great));
}

-- or with none
pub no_less : (first end least input : ℕ) (xs : List Tagged) (lists : Lists) → Scanned first end least lists → Rise lists → end < length lists
    → ((d : Bor (List Tagged)) → (get_or lists end d).now ≡ xs) → input ≡ next_input xs → (0 < length xs → input < 4294967296) → least ≤ input → Scanned first (end + 1) least lists
no_less first end least input [] lists s rise within at is small le = record {
  most = s.most;
  found = λ lt. let g = s.found lt in record {
    within = g.within;
    some = g.some;
    next = g.next;
    before = g.before;
    all = more (λ list. All (λ n. least ≤ n.input) list.now) lists end g.all (λ d. subst (All (λ (n : Tagged). least ≤ n.input)) (sym (at d)) (All-nil (λ (n : Tagged). least ≤ n.input)));
  };
  none = λ great. more (λ list. list.now ≡ []) lists end (s.none great) at;
}
no_less first end least input (m ∷ ms) lists s rise within at is small le =
    let below = small (omega arith) in
    record {
      most = s.most;
      found = λ lt. let g = s.found lt in record {
        within = g.within;
        some = g.some;
        next = g.next;
        before = g.before;
        all = more (λ list. All (λ n. least ≤ n.input) list.now) lists end g.all (λ d i e in_. let least_there = from_head end m ms lists rise within at d i e in_ in omega (arith, least_there, is, le));
      };
      none = λ great. absurd (omega (arith, below, le, great));
    }

none_of_all : (lists : Lists) → AllWithin (λ list. list.now ≡ []) lists 0 (length lists) → all_of lists ≡ []
none_of_all [] none = refl
none_of_all (l ∷ ls) none = (λ i. none 0 l (omega arith) (omega arith) i ++ none_of_all ls (λ k d low high. none (suc k) d (omega arith) (omega arith)) i)

pub nothing_found : (first end least : ℕ) (lists : Lists) → Scanned first end least lists → length lists ≤ end → 4294967296 ≤ least → all_of lists ≡ []
nothing_found first end least lists s le great = none_of_all lists (λ k d low high. s.none great k d low (omega (arith, le, high)))

-- the list that is looked at
pub looked_at : (lists : Lists) (nth : ℕ) (list : Bor (List Tagged)) → nth < length lists → list ≡ get_or lists nth list → (d : Bor (List Tagged)) → (get_or lists nth d).now ≡ list.now
looked_at lists nth list lt is d = ap (λ (l : Bor (List Tagged)). l.now) (sym (get_or_read lists nth list lt is d))

pub as_is : (first found least input end : ℕ) (lists : Lists) → found ≡ first → input ≡ least → Scanned first end least lists → Scanned found end input lists
as_is first found least input end lists p q s = subst (λ f. Scanned f end input lists) (sym p) (subst (λ n. Scanned first end n lists) (sym q) s)
