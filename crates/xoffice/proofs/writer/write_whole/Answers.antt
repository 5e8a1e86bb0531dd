use Rattle.std.proofs.Common.{◌+◌, ◌-◌, ℕ, List, None, Some, length, take, drop, sym, ◌∙◌, subst, arith}
use Rattle.std.proofs.KnownBytes.{Appends-trans}
use Rattle.std.proofs.Math.Seq.{take-add}
use Rattle.std.proofs.lemmas.List.{take_rest}
use Rattle.std.specs.Io.KnownBytes.{Appends, Keeps}
use Rattle.std.specs.declared.option.Option.{Option}
use Rattle.xoffice.proofs.writer.write_whole.Goals.{in-Ok, in-Err}
use Rattle.xoffice.proofs.writer.write_whole.Goals as goal

Appends-kept : (a b c : Option (List ℕ)) (bs : List ℕ) → Appends a b bs → Keeps b c → Appends a c bs
Appends-kept None b c bs p q = tt
Appends-kept (Some x) None c bs p q = absurd p
Appends-kept (Some x) (Some y) None bs p q = absurd q
Appends-kept (Some x) (Some y) (Some z) bs p q = q ∙ p

-- after a front part, the next bytes are out too
Appends-next : (a b c : Option (List ℕ)) (all : List ℕ) (out n : ℕ) → Appends a b (take out all)
    → Appends b c (take n (take (length all - out) (drop out all))) → Appends a c (take (out + n) all)
Appends-next a b c all out n p q =
    let next : Appends b c (take n (drop out all)) = subst (λ (rest : List ℕ). Appends b c (take n rest)) (take_rest all out) q in
    subst (Appends a c) (sym (take-add out n all)) (Appends-trans a b c _ _ p next)

pub loop-preserved : goal.loop-preserved
loop-preserved g c =
    let before = g.W.Write.contents c.args.writer.now in
    let held = g.W.Write.contents c.loop.writer in
    let now = g.W.Write.contents c.write.new.self in
    let all = c.args.bytes.now in
    let P : ℕ → Type 0 = λ n. Appends before now (take n all) in
    elim c.match-write.branch [
      | in-Ok w ↦ record {
        within = omega (arith, w.in-Ok.ensures.bound);
        appended = subst P (sym w.out-is) (Appends-next before held now all _ _ c.loop.invariant.appended w.in-Ok.ensures.bytes);
      }
      | in-Err w ↦ record {
        within = omega arith;
        appended = subst P (sym w.out-is) (Appends-kept before held now _ c.loop.invariant.appended w.in-Err.ensures.bytes);
      }
    ]
