-- 01's "One job entire" (Cases), the same with one part behind the other (Behind), and the wrong planners and judges (Refused).
pub mod Cases
pub mod Behind
pub mod Refused
