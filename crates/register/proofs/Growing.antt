-- Every effect lets the book grow, and so does every accepted step.
use Prim.Native.Nat.{ℕ, suc, ◌+◌, ◌<◌, ◌≤◌, ◌%◌}
use mathlib.Core.Path.{◌≡◌, refl, sym, ap, ap₂, ◌∙◌}
use mathlib.Core.Bool.{Bool, true}
use mathlib.Core.List.{List}
use native.Mathlib.Omega.{arith}
use native.Mathlib.Decide.{ℕ_discrete}
use borrow.Author.Tests.{eqb-true, eq-eqb, ne_eqb}
use lib.ListN.{get_or, set, length}
use lib.Seq.{get_or-set_same, get_or-set_other}
use Rattle.words.specs.Tests.{choose}
use Rattle.words.specs.Digits.{digit, with_member, with_stage}
use Rattle.words.proofs.Digits.{stage_put}
use Rattle.register.specs.Types.{Epoch, Step, Header, Content, OfficeState, Book}
use Rattle.register.specs.Books.{epoch, blocks_of, messages_of, changed}
use Rattle.register.specs.Views.{in_view, stage}
use Rattle.register.specs.Effects.{with_block, with_named, with_sent, with_moved, with_acted, with_state, with_next_epoch}
use Rattle.register.specs.Steps.{rule_of}
use Rattle.register.proofs.Tables.{header_other, content_other}
use Rattle.register.proofs.Places.{Placed, placed, placed_stage, placed_within}
use Rattle.register.proofs.Accepted.{Accepted, trusted_below}
use Rattle.register.proofs.Naming.{named_has}
use Rattle.register.proofs.Growth.{Grows, grows_refl, grows_trans}

-- a change of epoch, marks and what offices hold
quiet : (r : Book) (e : Epoch) (a : ℕ) (o : List OfficeState) → Grows r (changed r e a (blocks_of r) (messages_of r) o)
unfolding stage
quiet r e a o =
    record {
      n = refl;
      trust = refl;
      last = omega arith;
      blocks = λ b h. refl;
      count = omega arith;
      messages = λ m h. refl;
      views = λ q m h. h;
    }

grows_acted : (r : Book) (q : ℕ) → Grows r (with_acted r q)
unfolding with_acted
grows_acted r q = quiet r r.epoch (with_member r.acted q) r.offices

pub grows_state : (r : Book) (q : ℕ) (state : OfficeState) → Grows r (with_state r q state)
unfolding with_state
grows_state r q state = quiet r r.epoch r.acted (set r.offices q state)

grows_epoch : (r : Book) → Grows r (with_next_epoch r)
unfolding with_next_epoch
grows_epoch r = quiet r (epoch (r.epoch.0 + 1)) 0 r.offices

grows_block : (r : Book) (new : Header) → Grows r (with_block r new)
unfolding with_block stage
grows_block r new =
    record {
      n = refl;
      trust = refl;
      last = omega arith;
      blocks = λ b h. header_other r new b (λ e. omega arith);
      count = omega arith;
      messages = λ m h. refl;
      views = λ q m h. h;
    }

grows_named : (r : Book) (new : Header) → Grows r (with_named r new)
grows_named r new = named_has r new (Grows r) (grows_refl r) (λ next. grows_block r new)

-- a stage of view, by what the tables hold
seen : (r s : Book) (q m : ℕ) → (Placed r q m 3 → Placed s q m 3) → in_view r q m ≡ true → in_view s q m ≡ true
seen r s q m keeps h = eq-eqb _ 3 (placed_stage s q m 3 (keeps (placed r q m 2 (eqb-true _ 3 h))))

grows_sent : (r : Book) (actor : ℕ) (new : Content) → Grows r (with_sent r actor new)
unfolding with_sent
grows_sent r actor new =
    record {
      n = refl;
      trust = refl;
      last = omega arith;
      blocks = λ b h. refl;
      count = omega arith;
      messages = λ m h. content_other r actor new m (λ e. omega arith);
      views = λ q m.
          seen r (with_sent r actor new) q m
          (λ v.
          record {
            trusted = v.trusted;
            sent = omega (arith, v.sent);
            digit =
                ap (λ (w : ℕ). digit 4 w q) (get_or-set_other r.places r.count m _ 0 (λ e. omega (arith, v.sent))) ∙ v.digit;
          });
    }

-- a message that comes to a stage for one office stays in the view of every other, and so does every other message
stays : (places : List ℕ) (m q s a x : ℕ) → m < length places → a < 32 → digit 4 (get_or places m 0) q < 3
    → digit 4 (get_or places x 0) a ≡ 3 → digit 4 (get_or (set places m (with_stage (get_or places m 0) q s)) x 0) a ≡ 3
unfolding choose
stays places m q s a x within office low three = by (ℕ_discrete x m)
  where
    w : ℕ
    w = get_or places m 0

    other : x ≡ m → a ≡ q → ⊥
    other e f = omega (arith, ap₂ (λ (y b : ℕ). digit 4 (get_or places y 0) b) e f)

    by : Dec (x ≡ m) → digit 4 (get_or (set places m (with_stage w q s)) x 0) a ≡ 3
    by (yes e) =
        ap (λ (y : ℕ). digit 4 (get_or (set places m (with_stage w q s)) y 0) a) e
        ∙ ap (λ (v : ℕ). digit 4 v a) (get_or-set_same places m (with_stage w q s) 0 within)
        ∙ stage_put w q s a office
        ∙ ap (λ (t : Bool). choose t (s % 4) (digit 4 w a)) (ne_eqb a q (other e))
        ∙ (unfold choose in ap (λ (y : ℕ). digit 4 (get_or places y 0) a) (sym e))
        ∙ three
    by (no d) = ap (λ (v : ℕ). digit 4 v a) (get_or-set_other places m x (with_stage w q s) 0 d) ∙ three

-- a message that is in transit or in the inbox moves
grows_moved : (r : Book) (m q k s : ℕ) → r.n ≤ 32 → k < 2 → Placed r q m (suc k) → Grows r (with_moved r m q s)
unfolding with_moved
grows_moved r m q k s few low here =
    record {
      n = refl;
      trust = refl;
      last = omega arith;
      blocks = λ b h. refl;
      count = omega arith;
      messages = λ x h. refl;
      views = λ a x.
          seen r (with_moved r m q s) a x
          (λ v.
          record {
            trusted = v.trusted;
            sent = v.sent;
            digit =
                stays r.places m q s a x (placed_within r q m k here) (omega (arith, trusted_below r a v.trusted))
                (omega (arith, here.digit)) v.digit;
          });
    }

-- every accepted step
pub grows_step : (r : Book) (step : Step) → r.n ≤ 32 → Accepted r step → Grows r (rule_of r step).effect
unfolding rule_of
grows_step r (Step.Propose office parent w) few a =
    grows_trans (grows_named r _) (grows_trans (grows_sent _ office.0 _) (grows_acted _ office.0))
grows_step r (Step.Vote office message) few a =
    grows_trans (grows_moved r message.0 office.0 1 3 few (omega arith) a.message)
    (grows_trans (grows_sent _ office.0 _) (grows_acted _ office.0))
grows_step r (Step.Register office message) few a = grows_moved r message.0 office.0 1 3 few (omega arith) a
grows_step r (Step.Finalise office newest) few a = grows_state r office.0 _
grows_step r (Step.Deliver message office) few a = grows_moved r message.0 office.0 0 2 few (omega arith) a
grows_step r (Step.BadSend sender kind signer about) few a = grows_sent r sender.0 _
grows_step r (Step.Draft parent epoch w) few a = grows_named r _
grows_step r Step.Advance few a = grows_epoch r
