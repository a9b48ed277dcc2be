-- A column that is turned entry by entry, by a closure that gives f of each entry, is `map f` of that column. Some entry is named, whichever it is, for
-- places past the end.
use Prim.Native.Nat.{ℕ}
use mathlib.Core.Path.{◌≡◌, refl, sym, ◌∙◌}
use mathlib.Core.List.{List, map}
use native.Mathlib.Omega.{arith}
use lib.ListN.{length, length-map, get_or-map}
use lib.Seq.{ext_get_or}
use Rattle.std.specs.Fn.{Mut, Called}
use Rattle.std.specs.Array.{IsMapOf}
use Rattle.tables.specs.contracts.sorts.KindPartialEq.TheImpl.{ghosts}
use Rattle.register.specs.Types.{Kind}
use Rattle.register.specs.Books.{is_vote}

pub turned : {C A B : Type 0} {g : Mut C (A × Unit {0}) B} {closure : C} {xs : List A} {ys : List B} {n : ℕ} (f : A → B) (entry : A) → length xs ≡ n
    → IsMapOf g closure xs ys n → ((p : C) (x : A) (y : B) (q : C) → Called g p (x, tt) y q → y ≡ f x) → ys ≡ map f xs
turned {xs = xs} {ys = ys} f entry long is gives =
    ext_get_or (f entry) ys (map f xs) (omega (arith, is.long, long, length-map xs f))
    (λ i l.
    let call = is.at i entry (f entry) (omega (arith, is.long, l)) in
    gives _ _ _ _ call.2 ∙ sym (get_or-map f xs i entry))

-- the flag of a kind is its comparison with that of a vote
pub vote_test : (kind : Kind) → is_vote kind ≡ ghosts.eq kind Kind.Vote
unfolding is_vote
vote_test Kind.Proposal = refl
vote_test Kind.Vote = refl
