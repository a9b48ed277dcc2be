-- A lawful step from a safe register gives a safe register.
use Prim.Native.Nat.{ℕ, ◌*◌, ◌<◌, ◌≤◌}
use mathlib.Core.Path.{◌≡◌, sym, ap, ◌∙◌, subst⁻¹, subst₂, fun_ext}
use mathlib.Core.Bool.{Bool, true, not}
use mathlib.Core.Logic.{◌⊎◌, inl, inr, ⊎_elim}
use native.Mathlib.Omega.{arith}
use native.Mathlib.Decide.{dec_lt}
use Rattle.words.specs.Sums.{tally}
use Rattle.words.proofs.Tests.{clash}
use Rattle.register.specs.declared.table.Content.{Content}
use Rattle.register.specs.declared.book.Book.{Book}
use Rattle.register.specs.Tables.{trusted, acted, parent_of, epoch_of, content_of, signer_of, about_of, final_of}
use Rattle.register.specs.Chains.{chain_length, chain_notarised}
use Rattle.register.proofs.Accepted.{trusted_below}
use Rattle.register.proofs.Chains.{parent_le}
use Rattle.register.proofs.Ranges.{Ranges}
use Rattle.register.proofs.Growth.{Grows, trusted_kept, parent_kept, epoch_kept, length_kept, chain_notarised_kept}
use Rattle.agreement.proofs.Backing.{three_kept}
use Rattle.agreement.proofs.Safety.{Signature, Vouched, Before, Ordered, same, before, after, Finalised, genesis, middle, Safe, NewFinal, Signing, News, Clock, still, later, Lawful, signed_le, longest_notarised, longest_most}

module _ {r s : Book} (safe : Safe r) (ranges : Ranges s) (step : Lawful r s) where
  -- a signature of the history after the step: an old one, or a trusted office signs now, by the newest message
  Classified : ℕ → ℕ → ℕ → Type 0
  Classified m h x = Signature r h x ⊎ ((m ≡ r.count) × Signing r s h x)

  classified : (h x : ℕ) → trusted r h ≡ true → (sg : Signature s h x) → Classified sg.message h x
  unfolding Classified
  classified h x t sg = by (dec_lt sg.message r.count) (step.news sg.message sg.sent)
    where
      m : ℕ
      m = sg.message

      old : m < r.count → Signature r h x
      old l =
          let e : content_of s m ≡ content_of r m = step.grows.messages m l in
          record {
            message = m;
            sent = l;
            signer = ap (λ (y : Content). y.signer.0) (sym e) ∙ sg.signer;
            about = ap (λ (y : Content). y.about.0) (sym e) ∙ sg.about;
          }

      new : (m < r.count → ⊥) → News r s h x → Signature r h x ⊎ ((m ≡ r.count) × Signing r s h x)
      new past w = ⊎_elim (λ o. inl o) (λ n. inr (omega (arith, sg.sent, step.one), n)) (w t)

      by : Dec (m < r.count) → (m < r.count) ⊎ News r s (signer_of s m) (about_of s m)
          → Signature r h x ⊎ ((m ≡ r.count) × Signing r s h x)
      by (yes l) w = inl (old l)
      by (no l) (inl k) = absurd (l k)
      by (no l) (inr w) = new l (subst₂ (News r s) sg.signer sg.about w)

  -- what was known of an old signature still is
  vouched_old : (h x : ℕ) → trusted r h ≡ true → Signature r h x → Vouched s h x
  vouched_old h x t sg =
      let v : Vouched r h x = safe.vouched h x t sg in
      let l : x ≤ r.last.0 = signed_le safe sg in
      let lp : parent_of r x ≤ r.last.0 = omega (arith, parent_le r x) in
      let e : epoch_of s x ≡ epoch_of r x = epoch_kept step.grows x l in
      record {
        past = passed v e step.clock;
        marked = λ now. marked v e now step.clock;
        parent =
            subst⁻¹ (λ (b : ℕ). chain_notarised s h b ≡ true) (parent_kept step.grows x l)
            (chain_notarised_kept step.grows h (parent_of r x) lp v.parent);
      }
    where
      passed : Vouched r h x → epoch_of s x ≡ epoch_of r x → Clock r s → epoch_of s x ≤ s.epoch.0
      passed v e (still c k) = omega (arith, v.past)
      passed v e (later c) = omega (arith, v.past)

      marked : Vouched r h x → epoch_of s x ≡ epoch_of r x → epoch_of s x ≡ s.epoch.0 → Clock r s → acted s h ≡ true
      marked v e now (still c k) = k h (omega (arith, trusted_below r h t, safe.ranges.counts.offices)) (v.marked (omega arith))
      marked v e now (later c) = absurd (omega (arith, v.past))

  -- what a signature that is made now says
  vouched_new : (h x : ℕ) → Signing r s h x → Vouched s h x
  vouched_new h x n =
      record {
        past = omega (arith, n.current, n.epoch);
        marked = λ now. n.acts;
        parent = chain_notarised_kept step.grows h (parent_of s x) n.known (longest_notarised r h _ n.parent);
      }

  -- an old signature's block is before that of a signature that is made now
  before_new : (h x y : ℕ) → trusted r h ≡ true → Signature r h x → Signing r s h y → Before s x y
  before_new h x y t sg n =
      let g : Grows r s = step.grows in
      let v : Vouched r h x = safe.vouched h x t sg in
      let l : x ≤ r.last.0 = signed_le safe sg in
      let lp : parent_of r x ≤ r.last.0 = omega (arith, parent_le r x) in
      let not-now : epoch_of r x ≡ r.epoch.0 → ⊥ = λ now. clash (v.marked now) n.ready in
      record {
        earlier = omega (arith, epoch_kept g x l, v.past, not-now, n.current);
        shorter =
            omega (
              arith,
              ap (chain_length s) (parent_kept g x l),
              length_kept g (parent_of r x) lp,
              length_kept g (parent_of s y) n.known,
              longest_most r h (parent_of s y) (parent_of r x) n.parent lp v.parent,
            );
      }

  before_old : {x y : ℕ} → x ≤ r.last.0 → y ≤ r.last.0 → Before r x y → Before s x y
  before_old {x} {y} lx ly b =
      let g : Grows r s = step.grows in
      let parent : (z : ℕ) → z ≤ r.last.0 → chain_length s (parent_of s z) ≡ chain_length r (parent_of r z) =
      λ z l. ap (chain_length s) (parent_kept g z l) ∙ length_kept g (parent_of r z) (omega (arith, parent_le r z)) in
      record {
        earlier = omega (arith, epoch_kept g x lx, epoch_kept g y ly, b.earlier);
        shorter = omega (arith, parent x lx, parent y ly, b.shorter);
      }

  ordered_old : {x y : ℕ} → x ≤ r.last.0 → y ≤ r.last.0 → Ordered r x y → Ordered s x y
  ordered_old lx ly (same e) = same e
  ordered_old lx ly (before b) = before (before_old lx ly b)
  ordered_old lx ly (after b) = after (before_old ly lx b)

  -- two signatures of one trusted office, each old or made now
  ordered_all : (h x y : ℕ) → trusted r h ≡ true → (sx : Signature s h x) (sy : Signature s h y)
      → Classified sx.message h x → Classified sy.message h y → Ordered s x y
  unfolding Classified
  ordered_all h x y t sx sy (inl ox) (inl oy) =
      ordered_old (signed_le safe ox) (signed_le safe oy) (safe.ordered h x y t ox oy)
  ordered_all h x y t sx sy (inl ox) (inr ny) = before (before_new h x y t ox ny.1)
  ordered_all h x y t sx sy (inr nx) (inl oy) = after (before_new h y x t oy nx.1)
  ordered_all h x y t sx sy (inr nx) (inr ny) =
      same (sym sx.about ∙ ap (about_of s) (nx.0 ∙ sym ny.0) ∙ sy.about)

  vouched_all : (h x m : ℕ) → trusted r h ≡ true → Classified m h x → Vouched s h x
  unfolding Classified
  vouched_all h x m t (inl o) = vouched_old h x t o
  vouched_all h x m t (inr n) = vouched_new h x n.1

  finalised_old : {c : ℕ} → Finalised r c → Finalised s c
  finalised_old (genesis e) = genesis e
  finalised_old (middle b d l t) = middle b d (omega (arith, step.grows.last)) (three_kept step.grows l t)

  final_all : (p : ℕ) → Finalised r (final_of r p) → (final_of s p ≡ final_of r p) ⊎ NewFinal r s p → Finalised s (final_of s p)
  final_all p f (inl e) = subst⁻¹ (Finalised s) e (finalised_old f)
  final_all p f (inr n) = n.final

  pub safe_step : Safe s
  safe_step =
      let g : Grows r s = step.grows in
      let was : (q : ℕ) → trusted s q ≡ true → trusted r q ≡ true = λ q t. sym (trusted_kept g q) ∙ t in
      record {
        ranges = ranges;
        few =
            subst⁻¹ (λ (n : ℕ). 3 * tally n (λ q. not (trusted s q)) < n) g.n
            (subst⁻¹ (λ (t : ℕ → Bool). 3 * tally r.n (λ q. not (t q)) < r.n) (fun_ext (trusted_kept g)) safe.few);
        vouched = λ h x t sg. vouched_all h x sg.message (was h t) (classified h x (was h t) sg);
        ordered = λ h x y t sx sy.
            ordered_all h x y (was h t) sx sy (classified h x (was h t) sx) (classified h y (was h t) sy);
        final = λ p t. final_all p (safe.final p (was p t)) (step.finals p (was p t));
      }

  -- no trusted office's final chain gets shorter
  pub forward_step : (p : ℕ) → trusted r p ≡ true → chain_length r (final_of r p) ≤ chain_length s (final_of s p)
  forward_step p t = by (step.finals p t)
    where
      by : (final_of s p ≡ final_of r p) ⊎ NewFinal r s p → chain_length r (final_of r p) ≤ chain_length s (final_of s p)
      by (inl e) =
          let made : final_of r p ≤ r.last.0 = safe.ranges.finals p (trusted_below r p t) t in
          omega (arith, length_kept step.grows (final_of r p) made, ap (chain_length s) e)
      by (inr n) = n.forward
