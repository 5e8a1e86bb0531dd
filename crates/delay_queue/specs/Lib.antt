pub mod TimerKeys
pub mod Queue
