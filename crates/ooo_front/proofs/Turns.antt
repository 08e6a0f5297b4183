-- The turns of a cycle.
use Rattle.std.proofs.Common.{◌≡◌, ℕ, zero, suc, ◌+◌, cond, true, false, ◌∷◌, refl, sym, ap, subst, ◌∙◌}
use Rattle.ecoff_load.specs.declared.image.Text.{Text}
use Rattle.mem_hier.specs.declared.config.HierConfig.{HierConfig}
use Rattle.mem_hier.specs.Stands.{Held, StandsFor}
use Rattle.bpred_unit.specs.declared.config.PredConfig.{PredConfig}
use Rattle.bpred_unit.specs.declared.predictor.Predictor.{Predictor}
use Rattle.bpred_unit.specs.declared.predictor.Look.{Look}
use Rattle.bpred_unit.specs.History.{LookUp, look_of}
use Rattle.bpred_unit.specs.Stands as pred
use Rattle.ooo_front.specs.declared.row.FetchRow.{FetchRow}
use Rattle.ooo_front.specs.Fetching.{FrontEnd, Stage, may_fetch, next_row, fetch_one, fetch_up_to, fetch_cycle, looked_up, words_at, queued_at, with_reference, with_row}
use Rattle.ooo_front.specs.Stands.{Stands}

module _ (c : HierConfig) (p : PredConfig) (text : Text) (cycle : ℕ) where
  -- the turns that are left of a cycle come to the same stage as the whole cycle
  pub record IsUnderWay (left : ℕ) (f : FrontEnd) (h : Held) (v : Predictor) (end : Stage) : Type 0 where
    pub now : Stage
    pub stands : Stands f h v c p now
    pub rest : fetch_up_to c p text cycle left now ≡ end

  pub turn_over : (n : ℕ) (s : Stage) → may_fetch cycle s.front ≡ false → fetch_up_to c p text cycle n s ≡ s
  unfolding fetch_up_to
  turn_over zero s e = refl
  turn_over (suc n) s e = ap (λ b. cond b (fetch_up_to c p text cycle n (fetch_one c p text cycle s)) s) e

  pub turn_taken : (n : ℕ) (s : Stage) → may_fetch cycle s.front ≡ true → fetch_up_to c p text cycle (suc n) s ≡ fetch_up_to c p text cycle n (fetch_one c p text cycle s)
  unfolding fetch_up_to
  turn_taken n s e = ap (λ b. cond b (fetch_up_to c p text cycle n (fetch_one c p text cycle s)) s) e

  pub turns_done : (s : Stage) → fetch_up_to c p text cycle 0 s ≡ s
  unfolding fetch_up_to
  turns_done s = refl

-- ---- one row

abbrev row_with : FrontEnd → ℕ → ℕ × ℕ → Look → ℕ → FetchRow
row_with f cycle words look queued =
    record { row = f.row; pc = f.pc; a = words.0; b = words.1; next = look.next; top = look.top; fetched = cycle; queued = queued }

-- what the calls for one row answered, by the stage
pub record IsAnswered (c : HierConfig) (p : PredConfig) (text : Text) (at : ℕ) (s : Stage) (f : FrontEnd) (ab : ℕ × ℕ) (answer : Look) (there : ℕ) : Type 0 where
  pub front : f ≡ s.front
  pub words : ab ≡ words_at text f.pc
  pub look : answer ≡ look_of p s.events f.pc (looked_up ab.0 ab.1)
  pub queued : there ≡ queued_at c text at f.pc s.references

module _ (c : HierConfig) (p : PredConfig) (text : Text) (cycle : ℕ) where
  pub row_is_next : (s : Stage) (f : FrontEnd) (words : ℕ × ℕ) (look : Look) (queued : ℕ) → IsAnswered c p text cycle s f words look queued
      → row_with f cycle words look queued ≡ next_row c p text cycle s
  unfolding next_row
  row_is_next s f words look queued a =
      ap (λ x. row_with x cycle words look queued) a.front
      ∙ (ap (λ w. row_with s.front cycle w look queued) same_words
      ∙ (ap (λ l. row_with s.front cycle (words_at text s.front.pc) l queued) same_look
      ∙ ap (λ q. row_with s.front cycle (words_at text s.front.pc) (look_of p s.events s.front.pc (looked_up (words_at text s.front.pc).0 (words_at text s.front.pc).1)) q) same_queued))
    where
      same_words : words ≡ words_at text s.front.pc
      same_words = a.words ∙ ap (λ (x : FrontEnd). words_at text x.pc) a.front

      same_look : look ≡ look_of p s.events s.front.pc (looked_up (words_at text s.front.pc).0 (words_at text s.front.pc).1)
      same_look =
          a.look
          ∙ (ap (λ (x : FrontEnd). look_of p s.events x.pc (looked_up words.0 words.1)) a.front
          ∙ ap (λ (w : ℕ × ℕ). look_of p s.events s.front.pc (looked_up w.0 w.1)) same_words)

      same_queued : queued ≡ queued_at c text cycle s.front.pc s.references
      same_queued = a.queued ∙ ap (λ (x : FrontEnd). queued_at c text cycle x.pc s.references) a.front

  pub stands_next : (s : Stage) (f old new : FrontEnd) (h' : Held) (v' : Predictor) (words : ℕ × ℕ) (look : Look) (queued : ℕ) → f ≡ old
      → IsAnswered c p text cycle s f words look queued
      → new ≡ with_row (row_with f cycle words look queued) old
      → StandsFor h' c (with_reference text cycle f.pc s.references)
      → pred.StandsFor v' p (LookUp f.pc (looked_up words.0 words.1) ∷ s.events)
      → Stands new h' v' c p (fetch_one c p text cycle s)
  stands_next s f old new h' v' words look queued v a e refers looks =
      record {
        front = e ∙ (ap (λ r. with_row r old) (row_is_next s f words look queued a) ∙ ap (with_row (next_row c p text cycle s)) (sym v ∙ a.front));
        hierarchy = subst (λ (x : FrontEnd). StandsFor h' c (with_reference text cycle x.pc s.references)) a.front refers;
        predictor =
            subst (λ (x : FrontEnd). pred.StandsFor v' p (LookUp x.pc (looked_up (words_at text x.pc).0 (words_at text x.pc).1) ∷ s.events)) a.front
            (subst (λ (w : ℕ × ℕ). pred.StandsFor v' p (LookUp f.pc (looked_up w.0 w.1) ∷ s.events)) a.words looks);
      }

  -- ---- a cycle

  pub begun : (f f' : FrontEnd) (h : Held) (v : Predictor) (s : Stage) → Stands f h v c p s → f' ≡ record f { cycle = cycle + 1 }
      → (n : ℕ) → n ≡ f.width → IsUnderWay c p text cycle n f' h v (fetch_cycle c p text cycle s)
  begun f f' h v s st e n same =
      record {
        now = record s { front = record s.front { cycle = cycle + 1 } };
        stands = record {
          front = e ∙ ap (λ (x : FrontEnd). record x { cycle = cycle + 1 }) st.front;
          hierarchy = st.hierarchy;
          predictor = st.predictor;
        };
        rest = ap (λ k. fetch_up_to c p text cycle k (record s { front = record s.front { cycle = cycle + 1 } })) (same ∙ ap (λ (x : FrontEnd). x.width) st.front);
      }

  -- no row may be fetched any more
  pub over : (n : ℕ) (f : FrontEnd) (h : Held) (v : Predictor) (end : Stage) → IsUnderWay c p text cycle n f h v end → may_fetch cycle f ≡ false
      → Stands f h v c p end
  over n f h v end u e =
      subst (Stands f h v c p) (sym (turn_over c p text cycle n u.now (ap (may_fetch cycle) (sym u.stands.front) ∙ e)) ∙ u.rest) u.stands

  -- no turn is left
  pub done : (n : ℕ) (f : FrontEnd) (h : Held) (v : Predictor) (end : Stage) → n ≡ 0 → IsUnderWay c p text cycle n f h v end → Stands f h v c p end
  done n f h v end e u =
      subst (Stands f h v c p) (sym (ap (λ k. fetch_up_to c p text cycle k u.now) e ∙ turns_done c p text cycle u.now) ∙ u.rest) u.stands

  -- a row more
  pub further : (n m : ℕ) (f f' : FrontEnd) (h h' : Held) (v v' : Predictor) (end : Stage) → n ≡ suc m → IsUnderWay c p text cycle n f h v end
      → may_fetch cycle f ≡ true
      → ((s : Stage) → Stands f h v c p s → Stands f' h' v' c p (fetch_one c p text cycle s))
      → IsUnderWay c p text cycle m f' h' v' end
  further n m f f' h h' v v' end e u may next =
      record {
        now = fetch_one c p text cycle u.now;
        stands = next u.now u.stands;
        rest =
            sym (turn_taken c p text cycle m u.now (ap (may_fetch cycle) (sym u.stands.front) ∙ may))
            ∙ (sym (ap (λ k. fetch_up_to c p text cycle k u.now) e) ∙ u.rest);
      }
